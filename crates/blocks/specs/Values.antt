-- What a binary op gives for two values, or none where it is outside 32 bits or the divisor is 0. Assumes nothing.
use Rattle.std.specs.Prelude.{Option, Some, None, ℤ, ◌+ℤ◌, ◌-ℤ◌, ◌*ℤ◌}
use Rattle.std.specs.Int.Signed.{lt_z, quot_z, rem_z}
use Rattle.rules.specs.Lists.{when◌then◌else◌}
use Rattle.rules.specs.Bytes.{fits, equals, is_zero, truth}
use Rattle.rules.specs.Chart as op
use Rattle.blocks.specs.declared.values.Binary.{Binary}
use Rattle.blocks.specs.declared.values.Binary.TheVariants.{Add, Subtract, Multiply, Quotient, Remainder, Less, Equal}

-- z, where it is a signed 32-bit value
unfoldable pub within32 : ℤ → Option ℤ
within32 z = when fits z then Some z else None

unfoldable pub quotient_of : ℤ → ℤ → Option ℤ
quotient_of x y = when is_zero y then None else within32 (quot_z x y)

unfoldable pub remainder_of : ℤ → ℤ → Option ℤ
remainder_of x y = when is_zero y then None else Some (rem_z x y)

unfoldable pub combined : Binary → ℤ → ℤ → Option ℤ
combined Add x y = within32 (x +ℤ y)
combined Subtract x y = within32 (x -ℤ y)
combined Multiply x y = within32 (x *ℤ y)
combined Quotient x y = quotient_of x y
combined Remainder x y = remainder_of x y
combined Less x y = Some (truth (lt_z x y))
combined Equal x y = Some (truth (equals x y))

-- the rules' op of each
abbrev pub binary_meant : Binary → op.Op
binary_meant Add = op.add
binary_meant Subtract = op.subtract
binary_meant Multiply = op.multiply
binary_meant Quotient = op.quotient
binary_meant Remainder = op.remainder
binary_meant Less = op.less
binary_meant Equal = op.equal
