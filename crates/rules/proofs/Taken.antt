-- What a chart that is taken gives, once for all that follows: a tree of states, segments that end where something is, blocks
-- whose instructions have their operands. Assumes nothing.
use mathlib.Core.Path.{◌≡◌, refl}
use mathlib.Core.Logic.{inl, inr}
use mathlib.Core.Bool.{Bool, true, false, ◌&&◌, not, beq, false≢true}
use mathlib.Core.List.Memᴰ
use mathlib.Core.List.{List, [], ◌∷◌}
use Prim.Native.Nat.{ℕ, ◌-◌, ◌%◌, ◌≤◌, ◌<◌}
use native.Mathlib.Omega.{arith}
use lib.Dec.{eqb, leb, ltb}
use lib.ListN.{length, get_or}
use lib.IntN.{ℤ, pos, negsuc}
use borrow.Author.Tests.{eq-eqb, ne_eqb, eqb-true, eqb-false, leb-true, ltb-true}
use Rattle.rules.specs.Bytes.{unsigned}
use Rattle.rules.specs.Lists.{when◌then◌else◌, up_from, down_from, below, range, within, every, all}
use Rattle.rules.specs.Chart as C
use Rattle.rules.specs.Chart.{State, Segment, Chart, Block, Instruction, states, junctions, segments, variables, events, instructions, parent, kind, initial, entry, during, exit, destination, destination_kind, condition, condition_action, transition_action, instruction, code, is_one_of, keeps_history, ends_on_state, children, children_down, over}
use Rattle.rules.specs.Accept as A
use Rattle.rules.specs.Accept.{op_rule, is_none, operands_right, state_right, states_right, segment_right, every_block, block_right, blocks_right, instruction_right, nothing_barred, is_send, counts_right, chart_refusal}
use Rattle.rules.specs.Block.{sent_to}
use Rattle.rules.proofs.Laws.{every-at, both, and_left, and_right, and_both, two, unless-zero}
use Rattle.rules.proofs.Members.{Mem, mem-every, keep-mem, mem-keep, is_in-mem, up_from-mem, range-mem, mem-range, down_from-mem, mem-down_from, every-below}

-- the tests of a list, one by one
pub each_of : (ts : List Bool) → all ts ≡ true → (k : ℕ) → k < length ts → get_or ts k true ≡ true
unfolding all
each_of ts e k h = every-at (λ t. t) ts e k true h

three : (a b d : Bool) → a && b && d ≡ true → (a ≡ true) × (b ≡ true) × (d ≡ true)
three a b d e = let (q, z) = both (a && b) d e in (and_left a b q, and_right a b q, z)

within_both : (lo hi n : ℕ) → within lo hi n ≡ true → (lo ≤ n) × (n ≤ hi)
within_both lo hi n e = let (l, h) = both (leb lo n) _ e in (leb-true lo n l, leb-true n hi h)

-- k is a child of p
pub record Child (c : Chart) (p k : State) : Type 0 where
  pub above : 0 < k
  pub state : k < states c
  pub of : parent c k ≡ p

module _ (c : Chart) where
  pub children-mem : (p : State) {k : State} → Mem k (children c p) → Child c p k
  unfolding children
  children-mem p m =
      let (i, e) = keep-mem _ (range 1 (states c)) m in
      let (l, h) = range-mem 1 (states c) i in
      record { above = l; state = h; of = eqb-true _ _ e }

  pub mem-children : (p k : State) → Child c p k → Mem k (children c p)
  unfolding children
  mem-children p k ch =
      mem-keep _ (range 1 (states c)) (mem-range 1 (states c) k ch.above ch.state) (eq-eqb _ _ ch.of)

  pub children_down-mem : (p : State) {k : State} → Mem k (children_down c p) → Child c p k
  unfolding children_down
  children_down-mem p m =
      let (i, e) = keep-mem _ (down_from (states c - 1)) m in
      let (l, h) = down_from-mem (states c - 1) i in
      record { above = l; state = omega arith; of = eqb-true _ _ e }

  pub mem-children_down : (p k : State) → Child c p k → Mem k (children_down c p)
  unfolding children_down
  mem-children_down p k ch =
      mem-keep _ (down_from (states c - 1)) (mem-down_from (states c - 1) k ch.above (omega arith)) (eq-eqb _ _ ch.of)

-- the rules that no test of the chart refused
pub record Right (c : Chart) : Type 0 where
  pub counts : counts_right (states c) (junctions c) (segments c) (variables c) (events c) (C.outputs c) (instructions c) ≡ true
  pub state_rules : states_right c ≡ true
  pub segment_rules : every (segment_right c) (below (segments c)) ≡ true
  pub block_rules : blocks_right c ≡ true
  pub instruction_rules : every (instruction_right c) (below (instructions c)) ≡ true
  pub bar_rules : every_block c (nothing_barred c) ≡ true

pub right : (c : Chart) → chart_refusal c ≡ 0 → Right c
unfolding chart_refusal
right c e =
    let (t1, e1) = unless-zero 0 _ _ e in
    let (t2, e2) = unless-zero 1 _ _ e1 in
    let (t3, e3) = unless-zero 2 _ _ e2 in
    let (t4, e4) = unless-zero 3 _ _ e3 in
    let (t5, e5) = unless-zero 4 _ _ e4 in
    let (t6, e6) = unless-zero 5 _ _ e5 in
    let (t7, e7) = unless-zero 6 _ _ e6 in
    let (t8, e8) = unless-zero 7 _ _ e7 in
    let (t9, e9) = unless-zero 8 _ _ e8 in
    let (t10, e10) = unless-zero 9 _ _ e9 in
    let (t11, e11) = unless-zero 10 _ _ e10 in
    record { counts = t3; state_rules = t6; segment_rules = t7; block_rules = t8; instruction_rules = t9; bar_rules = t11 }

-- what the counts and the rules for states say
pub record Tree (c : Chart) : Type 0 where
  pub some : 0 < states c
  pub most : states c ≤ 64
  pub most_variables : variables c ≤ 32
  pub up : (s : State) → s < states c → 0 < s → parent c s < s
  pub top : parent c 0 ≡ 0
  pub depth : (s : State) → s < states c → over c 0 s ≡ true
  pub kinds : (s : State) → s < states c → kind c s ≤ 2
  pub leaves : (s : State) → s < states c → kind c s ≡ 0 → length (children c s) ≡ 0
  pub initials : (s : State) → s < states c → is_one_of c s ≡ true → Child c s (initial c s)
  pub histories : (s : State) → s < states c → is_one_of c s ≡ false → keeps_history c s ≡ false

module _ (c : Chart) (r : Right c) where
  state-rules : (s : State) → s < states c → state_right c s ≡ true
  unfolding states_right
  state-rules = every-below (state_right c) (states c) (and_left _ _ r.state_rules)

  pub tree : Tree c
  unfolding counts_right state_right A.parent_right A.children_right A.initial_right when◌then◌else◌
  tree =
      record {
        some = count.0;
        most = count.1;
        most_variables = (within_both 0 32 (variables c) (each_of _ r.counts 3 (omega arith))).1;
        up = λ s h p. ltb-true _ _ (rw (ne_eqb s 0 (λ q. omega arith)) at (each_of _ (state-rules s h) 1 (omega arith)));
        top = eqb-true _ _ (each_of _ (state-rules 0 count.0) 1 (omega arith));
        depth = λ s h. each_of _ (state-rules s h) 2 (omega arith);
        kinds = λ s h. leb-true _ _ (each_of _ (state-rules s h) 0 (omega arith));
        leaves = λ s h e. eqb-true _ _ (alike _ (rw (eq-eqb _ _ e) at (each_of _ (state-rules s h) 3 (omega arith))));
        initials = λ s h o. children-mem c s (is_in-mem _ _ (rw o at (each_of _ (state-rules s h) 4 (omega arith))));
        histories = λ s h o.
            let none = leb-true (C.history c s) 0 (rw o at (each_of _ (state-rules s h) 5 (omega arith))) in
            ne_eqb (C.history c s) 1 (λ q. omega arith);
      }
    where
      count : (1 ≤ states c) × (states c ≤ 64)
      count = within_both 1 64 (states c) (each_of _ r.counts 0 (omega arith))

      alike : (b : Bool) → beq true b ≡ true → b ≡ true
      alike true e = e
      alike false e = e

  end-right : (t : Segment) → t < segments c → A.end_right c 1 (destination_kind c t) (destination c t) ≡ true
  unfolding segment_right
  end-right t h = (three (A.end_right c 2 _ _) _ _ (every-below (segment_right c) (segments c) r.segment_rules t h)).1

  -- a segment that does not end on a state ends on a junction
  pub to-junction : (t : Segment) → t < segments c → ends_on_state c t ≡ false → destination c t < junctions c
  unfolding A.end_right when◌then◌else◌
  to-junction t h e =
      elim (two (eqb (destination_kind c t) 1)) [
        | inl q ↦ ltb-true _ _ (rw q at (end-right t h))
        | inr q ↦
            let z = (three (ltb (destination_kind c t) 1) _ _ (rw q at (end-right t h))).0 in
            absurd (omega (arith, ltb-true, eqb-false))
      ]

  -- and one that does ends on one of the chart's
  pub to-state : (t : Segment) → t < segments c → ends_on_state c t ≡ true → destination c t < states c
  unfolding A.end_right when◌then◌else◌
  to-state t h e =
      let k = destination_kind c t in
      let other : eqb k 1 ≡ false = ne_eqb k 1 (λ q. omega (arith, eqb-true k 0 e)) in
      ltb-true _ _ (three (ltb (destination_kind c t) 1) _ _ (rw other at (end-right t h))).2

-- a block of an accepted chart: where its instructions stand, and that each has its operands
abbrev pub has_operands : Chart → Instruction → Bool
has_operands c i = operands_right c (op_rule i.op).operands i

pub record Valid (c : Chart) (k : Block) : Type 0 where
  pub operands : every (has_operands c) (code c k) ≡ true
  pub inside : (i : ℕ) → Mem i (up_from k.start k.count) → i < instructions c

module _ (c : Chart) (r : Right c) where
  right-at : (i : ℕ) → i < instructions c → has_operands c (instruction c i) ≡ true
  unfolding instruction_right
  right-at = every-below (instruction_right c) (instructions c) r.instruction_rules

  valid : (k : Block) → block_right c k ≡ true → Valid c k
  unfolding code block_right is_none when◌then◌else◌
  valid k e =
      record {
        operands = mem-every (has_operands c) (code c k) (λ o m.
            let (i, n, q) = Memᴰ.of_map (instruction c) (up_from k.start k.count) m in
            rw (← q) (right-at i (inside i n)));
        inside = inside;
      }
    where
      inside : (i : ℕ) → Mem i (up_from k.start k.count) → i < instructions c
      inside i m =
          let (a, b) = up_from-mem k.start k.count m in
          omega (arith, leb-true, rw (ne_eqb k.count 0 (λ z. omega arith)) at e)

  valid-three : (k l m : Block) → block_right c k && block_right c l && block_right c m ≡ true
      → Valid c k × Valid c l × Valid c m
  valid-three k l m e = let (a, b, d) = three _ _ _ e in (valid k a, valid l b, valid m d)

  blocks : every_block c (λ p k. block_right c k) ≡ true
  unfolding blocks_right
  blocks = and_left _ _ r.block_rules

  of-state : (s : State) → s < states c → Valid c (entry c s) × Valid c (during c s) × Valid c (exit c s)
  unfolding every_block
  of-state s h = valid-three _ _ _ (every-below _ (states c) (and_left _ _ blocks) s h)

  of-segment : (t : Segment) → t < segments c
      → Valid c (condition c t) × Valid c (condition_action c t) × Valid c (transition_action c t)
  unfolding every_block
  of-segment t h = valid-three _ _ _ (every-below _ (segments c) (and_right (every _ (below (states c))) _ blocks) t h)

  pub entry-valid : (s : State) → s < states c → Valid c (entry c s)
  entry-valid s h = (of-state s h).0

  pub during-valid : (s : State) → s < states c → Valid c (during c s)
  during-valid s h = (of-state s h).1

  pub exit-valid : (s : State) → s < states c → Valid c (exit c s)
  exit-valid s h = (of-state s h).2

  pub condition-valid : (t : Segment) → t < segments c → Valid c (condition c t)
  condition-valid t h = (of-segment t h).0

  pub condition_action-valid : (t : Segment) → t < segments c → Valid c (condition_action c t)
  condition_action-valid t h = (of-segment t h).1

  pub transition_action-valid : (t : Segment) → t < segments c → Valid c (transition_action c t)
  transition_action-valid t h = (of-segment t h).2

-- a block without a send: an entry, exit or transition action
abbrev pub Silent : List Instruction → Type 0
Silent is = every (λ i. not (is_send i.op)) is ≡ true

silent-op : (o : C.Op) → not (A.barred A.in_action (op_rule o).effect) ≡ true → not (is_send o) ≡ true
unfolding is_send A.barred
silent-op o e = go (op_rule o).effect e
  where
    go : (f : A.Effect) → not (A.barred A.in_action f) ≡ true
        → not (elim f [ A.none ↦ false | A.acts ↦ false | A.sends ↦ true ]) ≡ true
    go A.none e = refl
    go A.acts e = refl
    go A.sends e = e

silent-code : (is : List Instruction) → every (λ i. not (A.barred A.in_action (op_rule i.op).effect)) is ≡ true → Silent is
unfolding every
silent-code [] e = refl
silent-code (i ∷ is) e =
    let (here, rest) = both (not (A.barred A.in_action (op_rule i.op).effect)) _ e in
    and_both (not (is_send i.op)) _ (silent-op i.op here) (silent-code is rest)

module _ (c : Chart) (r : Right c) where
  silent : (k : Block) → nothing_barred c A.in_action k ≡ true → Silent (code c k)
  unfolding nothing_barred
  silent k e = silent-code (code c k) e

  state-silent : (s : State) → s < states c → Silent (code c (entry c s)) × Silent (code c (exit c s))
  unfolding every_block
  state-silent s h =
      let (a, b, d) = three (nothing_barred c A.in_action (entry c s)) _ _
      (every-below _ (states c) (and_left _ _ r.bar_rules) s h) in
      (silent (entry c s) a, silent (exit c s) d)

  pub entry-silent : (s : State) → s < states c → Silent (code c (entry c s))
  entry-silent s h = (state-silent s h).0

  pub exit-silent : (s : State) → s < states c → Silent (code c (exit c s))
  exit-silent s h = (state-silent s h).1

  pub transition-silent : (t : Segment) → t < segments c → Silent (code c (transition_action c t))
  unfolding every_block
  transition-silent t h =
      silent (transition_action c t) (three (nothing_barred c A.in_condition (condition c t)) _ _
      (every-below _ (segments c) (and_right (every _ (below (states c))) _ r.bar_rules) t h)).2

-- the state that a send names is one of the chart's, and its number is b itself
named : (c : Chart) → states c ≤ 64 → (b : ℤ) → A.any_state c b ≡ true
    → (s : State) × (b ≡ pos s) × (s < states c) × (unsigned 2 b % 256 ≡ s)
unfolding A.any_state unsigned
named c most (pos s) e = let h = ltb-true s (states c) e in (s, refl, h, omega arith)
named c most (negsuc s) e = absurd (false≢true e)

pub sends-to-state : (c : Chart) → states c ≤ 64 → (i : Instruction) → operands_right c A.an_event_and_state i ≡ true
    → sent_to i < states c
unfolding operands_right
sends-to-state c most i e =
    let (s, b, h, q) = named c most i.b (and_right (within 1 (events c) i.a) _ e) in
    omega arith

pub operand-names : (c : Chart) → states c ≤ 64 → (i : Instruction) → has_operands c i ≡ true → i.op ≡ C.send
    → (s : State) × (i.b ≡ pos s) × (s < states c) × (sent_to i ≡ s)
unfolding op_rule operands_right
operand-names c most i v e = named c most _ (and_right (within 1 (events c) i.a) _ (rw e at v))

pub send-names : (c : Chart) → Right c → (i : ℕ) → i < instructions c → (instruction c i).op ≡ C.send
    → (s : State) × ((instruction c i).b ≡ pos s) × (s < states c) × (sent_to (instruction c i) ≡ s)
send-names c r i h e = operand-names c (tree c r).most (instruction c i) (right-at c r i h) e
