-- When a chart is taken: refusals 1 to 11, in order; later tests presume earlier ones. Assumes nothing.
use Rattle.std.specs.Prelude.{Bool, true, false, ◌&&◌, List, [], ◌∷◌, ℕ, ◌+◌, ◌-◌, eqb, leb, ltb, length, get_or, ℤ, pos, negsuc}
use Rattle.std.specs.Bool.{beq}
use Rattle.std.proofs.Math.Bool as B
use Prim.Native.String.{String}
use Rattle.rules.specs.Bytes.{Bytes, byte, ascii, is_zero}
use Rattle.rules.specs.Lists.{when◌then◌else◌, below, within, every, all, is_in}
use Rattle.rules.specs.Chart.{State, Segment, Chart, header_size, most_states, most_variables, stack_places, Block, Op, push, load, store, add, subtract, multiply, quotient, remainder, less, equal, not, raise, send, unknown, Instruction, states, junctions, segments, variables, events, outputs, instructions, state_at, junction_at, segment_at, variable_at, instruction_at, total, parent, kind, initial, history, entry, during, exit, junction_parent, source_kind, source, destination_kind, destination, event, condition, condition_action, transition_action, instruction, code, is_one_of, children, over}

-- the refusal k unless the test passes: then what follows decides
infixr 10 ◌unless◌next◌
unfoldable pub ◌unless◌next◌ : ℕ → Bool → ℕ → ℕ
k unless true next r = r
k unless false next r = k

-- a record's mark of two letters stands at place i
unfoldable pub marked : Bytes → String → ℕ → Bool
marked b m i = eqb (byte b i) (get_or (ascii m) 0 0) && eqb (byte b (i + 1)) (get_or (ascii m) 1 0)

unfoldable pub zero_at : Bytes → ℕ → Bool
zero_at b i = eqb (byte b i) 0

-- what an op does besides: nothing, store or raise, send
pub data Effect : Type 0 where
  none acts sends : Effect

pub data Operands : Type 0 where
  bare a_value a_variable an_output an_event_and_state no_op : Operands

-- what an op takes from the stack and gives to it, what it does besides, and its operands
pub record OpRule : Type 0 where
  pub takes : ℕ
  pub gives : ℕ
  pub effect : Effect
  pub operands : Operands

abbrev pub rule : ℕ → ℕ → Effect → Operands → OpRule
rule t g e o = record { takes = t; gives = g; effect = e; operands = o }

unfoldable pub op_rule : Op → OpRule
op_rule push = rule 0 1 none a_value
op_rule load = rule 0 1 none a_variable
op_rule store = rule 1 0 acts a_variable
op_rule add = rule 2 1 none bare
op_rule subtract = rule 2 1 none bare
op_rule multiply = rule 2 1 none bare
op_rule quotient = rule 2 1 none bare
op_rule remainder = rule 2 1 none bare
op_rule less = rule 2 1 none bare
op_rule equal = rule 2 1 none bare
op_rule not = rule 1 1 none bare
op_rule raise = rule 0 0 acts an_output
op_rule send = rule 0 0 sends an_event_and_state
op_rule unknown = rule 0 0 none no_op

unfoldable pub is_send : Op → Bool
is_send o = elim (op_rule o).effect [ none ↦ false | acts ↦ false | sends ↦ true ]

-- where a block stands decides how its stack ends and what it may do
pub data Place : Type 0 where
  in_condition in_action in_sending_action : Place

unfoldable pub is_none : Block → Bool
is_none k = eqb k.count 0

-- a condition with instructions ends at 1, every other block at 0
unfoldable pub ends_at : Place → Block → ℕ
ends_at in_condition k = when is_none k then 0 else 1
ends_at in_action k = 0
ends_at in_sending_action k = 0

-- store, raise and send are barred in a condition, send in all actions but two
unfoldable pub barred : Place → Effect → Bool
barred p none = false
barred in_condition acts = true
barred in_action acts = false
barred in_sending_action acts = false
barred in_condition sends = true
barred in_action sends = true
barred in_sending_action sends = false

-- the stack's depth after an instruction
unfoldable pub depth_after : ℕ → Instruction → ℕ
depth_after d i = d - (op_rule i.op).takes + (op_rule i.op).gives

-- from depth d the stack stays within 0..16 and ends at e
unfoldable pub stack_right : ℕ → ℕ → List Instruction → Bool
stack_right e d [] = eqb d e
stack_right e d (i ∷ is) =
    leb (op_rule i.op).takes d && leb (depth_after d i) stack_places && stack_right e (depth_after d i) is

-- 3: states, junctions, segments, variables, events, outputs and instructions
unfoldable pub counts_right : ℕ → ℕ → ℕ → ℕ → ℕ → ℕ → ℕ → Bool
counts_right s j t v e o i =
    all
    (within 1 most_states s ∷ within 0 64 j ∷ within 0 256 t ∷ within 0 most_variables v ∷ within 1 32 e ∷ within 0 32 o
    ∷ within 0 1024 i ∷ [])

module _ (c : Chart) where
  -- 5: a record has its mark, and zero bytes at these places
  unfoldable pub record_right : String → List ℕ → ℕ → Bool
  record_right m zeros i = marked c m i && every (λ z. zero_at c (i + z)) zeros

  unfoldable pub records_right : Bool
  records_right =
      all
      (zero_at c 9 ∷ every (λ s. record_right "ST" (15 ∷ []) (state_at c s)) (below (states c))
      ∷ every (λ j. record_right "JN" (3 ∷ []) (junction_at c j)) (below (junctions c))
      ∷ every (λ t. record_right "TR" (7 ∷ 8 ∷ []) (segment_at c t)) (below (segments c))
      ∷ every (λ v. record_right "VA" [] (variable_at c v)) (below (variables c))
      ∷ every (λ i. record_right "IN" [] (instruction_at c i)) (below (instructions c)) ∷ [])

  unfoldable pub parent_right : State → Bool
  parent_right s = when eqb s 0 then eqb (parent c s) 0 else ltb (parent c s) s

  -- a one-of or all-of state has a child, a leaf none
  unfoldable pub children_right : State → Bool
  children_right s = beq (eqb (kind c s) 0) (eqb (length (children c s)) 0)

  unfoldable pub initial_right : State → Bool
  initial_right s = when is_one_of c s then is_in (initial c s) (children c s) else eqb (initial c s) 0

  -- depth at most 8: the root is found that far up; history is 1 only on a one-of state
  unfoldable pub state_right : State → Bool
  state_right s =
      all
      (leb (kind c s) 2 ∷ parent_right s ∷ over c 0 s ∷ children_right s ∷ initial_right s
      ∷ leb (history c s) (when is_one_of c s then 1 else 0) ∷ [])

  unfoldable pub states_right : Bool
  states_right =
      every state_right (below (states c)) && every (λ j. ltb (junction_parent c j) (states c)) (below (junctions c))

  -- 7: of an end's kinds the last is a junction's, the others are a state's, which is not the root
  unfoldable pub end_right : ℕ → ℕ → ℕ → Bool
  end_right last kind n = when eqb kind last then ltb n (junctions c) else ltb kind last && ltb 0 n && ltb n (states c)

  unfoldable pub segment_right : Segment → Bool
  segment_right t =
      end_right 2 (source_kind c t) (source c t) && end_right 1 (destination_kind c t) (destination c t)
      && leb (event c t) (events c)

  -- for every block, with its place
  unfoldable pub every_block : (Place → Block → Bool) → Bool
  every_block f =
      every (λ s. f in_action (entry c s) && f in_sending_action (during c s) && f in_action (exit c s)) (below (states c))
      && every
      (λ t. f in_condition (condition c t) && f in_sending_action (condition_action c t) && f in_action (transition_action c t))
      (below (segments c))

  unfoldable pub block_right : Block → Bool
  block_right k = when is_none k then eqb k.start 0 else leb (k.start + k.count) (instructions c)

  unfoldable pub blocks_right : Bool
  blocks_right = every_block (λ p k. block_right k) && every is_none (entry c 0 ∷ during c 0 ∷ exit c 0 ∷ [])

  unfoldable pub any_state : ℤ → Bool
  any_state (pos s) = ltb s (states c)
  any_state (negsuc n) = false

  unfoldable pub operands_right : Operands → Instruction → Bool
  operands_right bare i = eqb i.a 0 && is_zero i.b
  operands_right a_value i = eqb i.a 0
  operands_right a_variable i = ltb i.a (variables c) && is_zero i.b
  operands_right an_output i = within 1 (outputs c) i.a && is_zero i.b
  operands_right an_event_and_state i = within 1 (events c) i.a && any_state i.b
  operands_right no_op i = false

  unfoldable pub instruction_right : ℕ → Bool
  instruction_right i = operands_right (op_rule (instruction c i).op).operands (instruction c i)

  unfoldable pub stack_use_right : Place → Block → Bool
  stack_use_right p k = stack_right (ends_at p k) 0 (code c k)

  unfoldable pub nothing_barred : Place → Block → Bool
  nothing_barred p k = every (λ i. B.not (barred p (op_rule i.op).effect)) (code c k)

  -- the lowest number that applies; 0 for a chart that is taken
  unfoldable pub chart_refusal : ℕ
  chart_refusal =
      1 unless leb header_size (length c) next
      2 unless marked c "CH" 0 next
      3 unless counts_right (states c) (junctions c) (segments c) (variables c) (events c) (outputs c) (instructions c) next
      4 unless eqb (length c) (total c) next
      5 unless records_right next
      6 unless states_right next
      7 unless every segment_right (below (segments c)) next
      8 unless blocks_right next
      9 unless every instruction_right (below (instructions c)) next
      10 unless every_block stack_use_right next
      11 unless every_block nothing_barred next 0
