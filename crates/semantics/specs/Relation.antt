-- The published rules, those of source 002, as an inductive relation: a constructor for each that 01 keeps, under 002's name
-- and in 002's order, figure by figure, as paper 01 narrows it; those that 002 does not show stand behind them and are said to be
-- so. `c ⊢ ⇝exS p n n'` is 002's Γ ⊢ (p, α₁) →exS (α₂, ⊤). A premise in ⟦ ⟧ is 01's own: a unit is paid, an item noted, a limit
-- kept, a state asked whether it is active, a chart whether it is started. Where 01 refuses, no rule applies: only what goes
-- through has a derivation. Shared with the definitions, and so not told here: what an instruction other than a send does, what
-- a condition gives, the arena, a unit and an item, the fields of chart and image, the lists made of them with their order, the
-- tests and changes of an image. Assumes nothing.
use Rattle.std.specs.Prelude.{◌≡◌, ◌⊎◌, Bool, true, false, List, [], ◌∷◌, ℕ, suc, ◌+◌, ◌<◌, eqb, pos}
use Rattle.rules.specs.Lists.{when◌then◌else◌, is_in}
use Rattle.rules.specs.Chart as C
use Rattle.rules.specs.Chart.{State, Segment, Chart, Instruction, initial, entry, during, exit, destination, event, condition_action, transition_action, is_one_of, keeps_history, ends_on_state, children, children_down, outer, inner, from_junction, code}
use Rattle.rules.specs.Accept.{is_send}
use Rattle.rules.specs.Image.{Image, is_active, recorded, activate, deactivate, record_child, not_started}
use Rattle.rules.specs.Doing.{Now, went, Doing, Done, done, change, pay, state_entered, state_left, during_point, segment_passed, transition_performed, note}
use Rattle.rules.specs.Block.{Stack, Ran, ran, abandoned, no_send, instruct}
use Rattle.rules.specs.Search.{Found, reached, nowhere, ended, run_abandoned, holds}
use Rattle.rules.specs.Fire.{arena}

-- the doing m goes from n to n' and gives a; and where it has nothing to give
pub record Gives {A : Type 0} (m : Doing A) (n : Now) (a : A) (n' : Now) : Type 0 where
  pub is : m n ≡ went a n'

abbrev pub Goes : Done → Now → Now → Type 0
Goes m n n' = Gives m n tt n'

-- a premise that 002 does not have
abbrev pub ⟦◌⟧ : Type 0 → Type 0
⟦ premise ⟧ = premise

-- 002's I(p) = (_, pₐ, _): q is the active child of p
pub record ActiveChild (c : Chart) (im : Image) (p q : State) : Type 0 where
  pub child : is_in q (children c p) ≡ true
  pub active : is_active im q ≡ true

-- a history junction of p records q: b → I₄ = I₃[p ↦ (_, _, q)], ¬b → I₄ = I₃
abbrev pub records : Chart → State → State → Done
records c p q = when keeps_history c p then change (λ im. record_child im p q) else done

-- 002's h = s \ a: h is the path from a down to s, child by child
pub data Descent (c : Chart) : State → List State → State → Type 0 where
  here : {s : State} → Descent c s [] s
  down : {a b s : State} {h : List State} → is_in b (children c a) ≡ true → Descent c b h s → Descent c a (b ∷ h) s

-- what is left of such a path behind its first state
abbrev pub tail : List State → List State
tail [] = []
tail (q ∷ h) = h

-- what a child s is handed of it: if s = head(h) then h else ε
abbrev pub towards : State → List State → List State
towards s [] = []
towards s (q ∷ h) = when eqb s q then q ∷ h else []

-- enb(t, α, e), or that it is not so: E = e ∨ E = ε, and [[c]], which 01 performs only then
pub data Enb (c : Chart) (e : ℕ) (t : Segment) (n : Now) : Now → Bool → Type 0 where
  tried : {n' : Now} {b : Bool} → (event c t ≡ e) ⊎ (event c t ≡ 0) → Gives (holds c t) n b n' → Enb c e t n n' b
  other : (event c t ≡ e → ⊥) → (event c t ≡ 0 → ⊥) → Enb c e t n n false

-- vt is 0 or -1: a list of transitions failed, or came to a terminal junction
pub data NoState : Found → Type 0 where
  failed : NoState nowhere
  terminal : NoState ended

-- The arrows of 002, each from a configuration n to the next, n'. Its →a is ⇝i of one instruction, ⇝a of the rest of a block,
-- from some instruction to its end, and ⇝at of the transition actions of a path. They take
--   k, how many sends more may be opened, 0 where sends are barred; l, how many segments came before on the path (both 01's);
--   e, the event, where it is read; p, the state, or the owner of a block or a search;
--   h, the path down to the target, or [] for none: of ⇝enS it begins with p itself, of ⇝enC with a child of p, of ⇝enSL with
--   one of the states listed;
-- and end with
--   r, a block's stack, or early return; b, that there is no early return;
--   o, a state that is reached (vt is 1) and the path to it, of which 002's transition actions and hp are made; or none (0, -1);
--   or early return.
pub data Arrow : Type 0 where
  ⇝i : (k : ℕ) (p : State) (st : Stack) (i : Instruction) (n n' : Now) (r : Ran) → Arrow
  ⇝a : (k : ℕ) (p : State) (st : Stack) (is : List Instruction) (n n' : Now) (r : Ran) → Arrow
  ⇝at : (p : State) (path : List Segment) (n n' : Now) → Arrow
  ⇝t : (k e : ℕ) (p : State) (l : ℕ) (t : Segment) (n n' : Now) (b : Bool) → Arrow
  ⇝tl : (k e : ℕ) (p : State) (l : ℕ) (ts : List Segment) (n n' : Now) (o : Found) → Arrow
  ⇝exS ⇝exC : (p : State) (n n' : Now) → Arrow
  ⇝exSL : (ps : List State) (n n' : Now) → Arrow
  ⇝enS ⇝enC : (h : List State) (p : State) (n n' : Now) → Arrow
  ⇝enSL : (h ps : List State) (n n' : Now) → Arrow
  ⇝runS ⇝runC : (k e : ℕ) (p : State) (n n' : Now) → Arrow
  ⇝runSL : (k e : ℕ) (ps : List State) (n n' : Now) → Arrow
  ⇝Ch : (e : ℕ) (n n' : Now) → Arrow

infix 4 ◌⊢◌
pub data ◌⊢◌ (c : Chart) : Arrow → Type 0 where
  -- Fig. 5, actions. The figure is missing from the copy at hand: SendF and SeqF are as in section 3.3, SeqT as A.2 tells it. A
  -- block is a list of instructions, over a stack; a send's event is a, and the state that it goes to is b
  SendF : {k : ℕ} {p b : State} {st : Stack} {i : Instruction} {n n' : Now}
      → i.op ≡ C.send → i.b ≡ pos b → ⟦ is_active n.image b ≡ true ⟧ → c ⊢ ⇝runS k i.a b n n'
      → c ⊢ ⇝i (suc k) p st i n n' (when is_active n'.image p then ran st else abandoned)
  SeqT : {k : ℕ} {p : State} {st st₁ : Stack} {i : Instruction} {is : List Instruction} {n n₁ n₂ n₃ : Now} {r : Ran}
      → ⟦ Goes pay n n₁ ⟧ → c ⊢ ⇝i k p st i n₁ n₂ (ran st₁) → c ⊢ ⇝a k p st₁ is n₂ n₃ r
      → c ⊢ ⇝a k p st (i ∷ is) n n₃ r
  SeqF : {k : ℕ} {p : State} {st : Stack} {i : Instruction} {is : List Instruction} {n n₁ n₂ : Now}
      → ⟦ Goes pay n n₁ ⟧ → c ⊢ ⇝i k p st i n₁ n₂ abandoned
      → c ⊢ ⇝a k p st (i ∷ is) n n₂ abandoned
  -- not in that copy: a send to a state that is not active; an instruction that is no send (002's assignment and print); the end
  -- of a block (its Skip); the transition actions of a path, which 002 joins by SeqT
  SendN : {k : ℕ} {p b : State} {st : Stack} {i : Instruction} {n : Now}
      → i.op ≡ C.send → i.b ≡ pos b → ⟦ is_active n.image b ≡ false ⟧
      → c ⊢ ⇝i k p st i n n (ran st)
  Plain : {k : ℕ} {p : State} {st : Stack} {i : Instruction} {n n' : Now} {r : Ran}
      → is_send i.op ≡ false → Gives (instruct no_send i.op i st) n r n'
      → c ⊢ ⇝i k p st i n n' r
  Skip : {k : ℕ} {p : State} {st : Stack} {n : Now}
      → c ⊢ ⇝a k p st [] n n (ran st)
  SeqP : {p : State} {t : Segment} {path : List Segment} {st : Stack} {n n₁ n₂ n₃ : Now}
      → ⟦ Goes (note transition_performed t) n n₁ ⟧ → c ⊢ ⇝a 0 p [] (code c (transition_action c t)) n₁ n₂ (ran st)
      → c ⊢ ⇝at p path n₂ n₃
      → c ⊢ ⇝at p (t ∷ path) n n₃
  SkipP : {p : State} {n : Now}
      → c ⊢ ⇝at p [] n n
  -- Fig. 6, transitions, and lists of transitions
  TrT : {k e l : ℕ} {p : State} {t : Segment} {st : Stack} {n n₁ n₂ n₃ : Now}
      → Enb c e t n n₁ true → ⟦ l < 128 ⟧ → ⟦ Goes (note segment_passed t) n₁ n₂ ⟧
      → c ⊢ ⇝a k p [] (code c (condition_action c t)) n₂ n₃ (ran st)
      → c ⊢ ⇝t k e p l t n n₃ true
  TrF : {k e l : ℕ} {p : State} {t : Segment} {n n₁ n₂ n₃ : Now}
      → Enb c e t n n₁ true → ⟦ l < 128 ⟧ → ⟦ Goes (note segment_passed t) n₁ n₂ ⟧
      → c ⊢ ⇝a k p [] (code c (condition_action c t)) n₂ n₃ abandoned
      → c ⊢ ⇝t k e p l t n n₃ false
  ToS : {k e l : ℕ} {p : State} {t : Segment} {ts : List Segment} {n n₁ n₂ : Now}
      → ⟦ Goes pay n n₁ ⟧ → c ⊢ ⇝t k e p l t n₁ n₂ true → ends_on_state c t ≡ true
      → c ⊢ ⇝tl k e p l (t ∷ ts) n n₂ (reached (destination c t) (t ∷ []))
  ToJ1 : {k e l : ℕ} {p d : State} {t : Segment} {ts path : List Segment} {n n₁ n₂ n₃ : Now}
      → ⟦ Goes pay n n₁ ⟧ → c ⊢ ⇝t k e p l t n₁ n₂ true → ends_on_state c t ≡ false
      → c ⊢ ⇝tl k e p (l + 1) (from_junction c (destination c t)) n₂ n₃ (reached d path)
      → c ⊢ ⇝tl k e p l (t ∷ ts) n n₃ (reached d (t ∷ path))
  ToJ2 : {k e l : ℕ} {p : State} {t t' : Segment} {ts : List Segment} {n n₁ n₂ n₃ n₄ : Now} {o : Found}
      → ⟦ Goes pay n n₁ ⟧ → c ⊢ ⇝t k e p l t n₁ n₂ true → ends_on_state c t ≡ false
      → c ⊢ ⇝tl k e p (l + 1) (from_junction c (destination c t)) n₂ n₃ nowhere → c ⊢ ⇝tl k e p l (t' ∷ ts) n₃ n₄ o
      → c ⊢ ⇝tl k e p l (t ∷ t' ∷ ts) n n₄ o
  ToJ3 : {k e l : ℕ} {p : State} {t : Segment} {n n₁ n₂ n₃ : Now}
      → ⟦ Goes pay n n₁ ⟧ → c ⊢ ⇝t k e p l t n₁ n₂ true → ends_on_state c t ≡ false
      → c ⊢ ⇝tl k e p (l + 1) (from_junction c (destination c t)) n₂ n₃ nowhere
      → c ⊢ ⇝tl k e p l (t ∷ []) n n₃ nowhere
  ToJ4 : {k e l : ℕ} {p : State} {t : Segment} {ts : List Segment} {n n₁ n₂ n₃ : Now}
      → ⟦ Goes pay n n₁ ⟧ → c ⊢ ⇝t k e p l t n₁ n₂ true → ends_on_state c t ≡ false
      → c ⊢ ⇝tl k e p (l + 1) (from_junction c (destination c t)) n₂ n₃ ended
      → c ⊢ ⇝tl k e p l (t ∷ ts) n n₃ ended
  Ind : {k e l : ℕ} {p : State} {t t' : Segment} {ts : List Segment} {n n₁ n₂ n₃ : Now} {o : Found}
      → ⟦ Goes pay n n₁ ⟧ → Enb c e t n₁ n₂ false → c ⊢ ⇝tl k e p l (t' ∷ ts) n₂ n₃ o
      → c ⊢ ⇝tl k e p l (t ∷ t' ∷ ts) n n₃ o
  Fail : {k e l : ℕ} {p : State} {t : Segment} {n n₁ n₂ : Now}
      → ⟦ Goes pay n n₁ ⟧ → Enb c e t n₁ n₂ false
      → c ⊢ ⇝tl k e p l (t ∷ []) n n₂ nowhere
  -- not shown in 002: no transition at all, of a junction (terminal) or of a state; early return, here or further on
  Ter : {k e l : ℕ} {p : State} {n : Now}
      → c ⊢ ⇝tl k e p l [] n n ended
  ToE1 : {k e l : ℕ} {p : State} {t : Segment} {ts : List Segment} {n n₁ n₂ : Now}
      → ⟦ Goes pay n n₁ ⟧ → c ⊢ ⇝t k e p l t n₁ n₂ false
      → c ⊢ ⇝tl k e p l (t ∷ ts) n n₂ run_abandoned
  ToE2 : {k e l : ℕ} {p : State} {t : Segment} {ts : List Segment} {n n₁ n₂ n₃ : Now}
      → ⟦ Goes pay n n₁ ⟧ → c ⊢ ⇝t k e p l t n₁ n₂ true → ends_on_state c t ≡ false
      → c ⊢ ⇝tl k e p (l + 1) (from_junction c (destination c t)) n₂ n₃ run_abandoned
      → c ⊢ ⇝tl k e p l (t ∷ ts) n n₃ run_abandoned
  -- Fig. 7, exit. A leaf counts as an And-composition of no states, here and below
  exS1 : {p : State} {st : Stack} {n n₁ n₂ n₃ n₄ n₅ : Now}
      → ⟦ Goes pay n n₁ ⟧ → c ⊢ ⇝exC p n₁ n₂ → c ⊢ ⇝a 0 p [] (code c (exit c p)) n₂ n₃ (ran st)
      → Goes (change (λ im. deactivate im p)) n₃ n₄ → ⟦ Goes (note state_left p) n₄ n₅ ⟧
      → c ⊢ ⇝exS p n n₅
  exO : {p q : State} {n n₁ n₂ : Now}
      → is_one_of c p ≡ true → ActiveChild c n.image p q → c ⊢ ⇝exS q n n₁ → Goes (records c p q) n₁ n₂
      → c ⊢ ⇝exC p n n₂
  exSL : {p : State} {ps : List State} {n n₁ n₂ : Now}
      → c ⊢ ⇝exS p n n₁ → c ⊢ ⇝exSL ps n₁ n₂
      → c ⊢ ⇝exSL (p ∷ ps) n n₂
  exA : {p : State} {n n' : Now}
      → is_one_of c p ≡ false → c ⊢ ⇝exSL (children_down c p) n n'
      → c ⊢ ⇝exC p n n'
  -- not shown in 002: the end of the list
  exSL0 : {n : Now}
      → c ⊢ ⇝exSL [] n n
  -- Fig. 8, entry. 01 has an initial child in place of a list of default transitions
  enS : {h : List State} {p : State} {st : Stack} {n n₁ n₂ n₃ n₄ n₅ : Now}
      → ⟦ Goes pay n n₁ ⟧ → Goes (change (λ im. activate im p)) n₁ n₂ → ⟦ Goes (note state_entered p) n₂ n₃ ⟧
      → c ⊢ ⇝a 0 p [] (code c (entry c p)) n₃ n₄ (ran st) → c ⊢ ⇝enC (tail h) p n₄ n₅
      → c ⊢ ⇝enS h p n n₅
  enO1 : {h : List State} {p q : State} {n n' : Now}
      → is_one_of c p ≡ true → c ⊢ ⇝enS (q ∷ h) q n n'
      → c ⊢ ⇝enC (q ∷ h) p n n'
  enO2 : {p : State} {n n' : Now}
      → is_one_of c p ≡ true → keeps_history c p ≡ true → 0 < recorded n.image p
      → c ⊢ ⇝enS [] (recorded n.image p) n n'
      → c ⊢ ⇝enC [] p n n'
  enO3 : {p : State} {n n' : Now}
      → is_one_of c p ≡ true → (recorded n.image p ≡ 0) ⊎ (keeps_history c p ≡ false)
      → c ⊢ ⇝enS [] (initial c p) n n'
      → c ⊢ ⇝enC [] p n n'
  enSL : {h ps : List State} {p : State} {n n₁ n₂ : Now}
      → c ⊢ ⇝enS (towards p h) p n n₁ → c ⊢ ⇝enSL h ps n₁ n₂
      → c ⊢ ⇝enSL h (p ∷ ps) n n₂
  enA : {h : List State} {p : State} {n n' : Now}
      → is_one_of c p ≡ false → c ⊢ ⇝enSL h (children c p) n n'
      → c ⊢ ⇝enC h p n n'
  -- not shown in 002: the end of the list
  enSL0 : {h : List State} {n : Now}
      → c ⊢ ⇝enSL h [] n n
  -- Fig. 9, execution. The arena is 01's, for what 002 calls exS and enS
  runS : {k e : ℕ} {p s : State} {path : List Segment} {h : List State} {n n₁ n₂ n₃ n₄ n₅ : Now}
      → ⟦ Goes pay n n₁ ⟧ → c ⊢ ⇝tl k e p 0 (outer c p) n₁ n₂ (reached s path)
      → c ⊢ ⇝exC (arena c p s path) n₂ n₃ → c ⊢ ⇝at p path n₃ n₄
      → Descent c (arena c p s path) h s → c ⊢ ⇝enC h (arena c p s path) n₄ n₅
      → c ⊢ ⇝runS k e p n n₅
  runS2 : {k e : ℕ} {p s : State} {path : List Segment} {h : List State} {o : Found} {st : Stack}
      {n n₁ n₂ n₃ n₄ n₅ n₆ n₇ n₈ : Now}
      → ⟦ Goes pay n n₁ ⟧ → c ⊢ ⇝tl k e p 0 (outer c p) n₁ n₂ o → NoState o
      → ⟦ Goes (note during_point p) n₂ n₃ ⟧ → c ⊢ ⇝a k p [] (code c (during c p)) n₃ n₄ (ran st)
      → c ⊢ ⇝tl k e p 0 (inner c p) n₄ n₅ (reached s path)
      → c ⊢ ⇝exC (arena c p s path) n₅ n₆ → c ⊢ ⇝at p path n₆ n₇
      → Descent c (arena c p s path) h s → c ⊢ ⇝enC h (arena c p s path) n₇ n₈
      → c ⊢ ⇝runS k e p n n₈
  runS3 : {k e : ℕ} {p : State} {o o' : Found} {st : Stack} {n n₁ n₂ n₃ n₄ n₅ n₆ : Now}
      → ⟦ Goes pay n n₁ ⟧ → c ⊢ ⇝tl k e p 0 (outer c p) n₁ n₂ o → NoState o
      → ⟦ Goes (note during_point p) n₂ n₃ ⟧ → c ⊢ ⇝a k p [] (code c (during c p)) n₃ n₄ (ran st)
      → c ⊢ ⇝tl k e p 0 (inner c p) n₄ n₅ o' → NoState o' → c ⊢ ⇝runC k e p n₅ n₆
      → c ⊢ ⇝runS k e p n n₆
  runO : {k e : ℕ} {p q : State} {n n' : Now}
      → is_one_of c p ≡ true → ActiveChild c n.image p q → c ⊢ ⇝runS k e q n n'
      → c ⊢ ⇝runC k e p n n'
  runSL : {k e : ℕ} {p : State} {ps : List State} {n n₁ n₂ : Now}
      → ⟦ is_active n.image p ≡ true ⟧ → c ⊢ ⇝runS k e p n n₁ → c ⊢ ⇝runSL k e ps n₁ n₂
      → c ⊢ ⇝runSL k e (p ∷ ps) n n₂
  runA : {k e : ℕ} {p : State} {n n' : Now}
      → is_one_of c p ≡ false → c ⊢ ⇝runSL k e (children c p) n n'
      → c ⊢ ⇝runC k e p n n'
  -- not shown in 002: the end of the list; a state that is not active at its turn; early return in the outer list, the during
  -- action or the inner list, which ends the run
  runSL0 : {k e : ℕ} {n : Now}
      → c ⊢ ⇝runSL k e [] n n
  runSLN : {k e : ℕ} {p : State} {ps : List State} {n n' : Now}
      → ⟦ is_active n.image p ≡ false ⟧ → c ⊢ ⇝runSL k e ps n n'
      → c ⊢ ⇝runSL k e (p ∷ ps) n n'
  runE1 : {k e : ℕ} {p : State} {n n₁ n₂ : Now}
      → ⟦ Goes pay n n₁ ⟧ → c ⊢ ⇝tl k e p 0 (outer c p) n₁ n₂ run_abandoned
      → c ⊢ ⇝runS k e p n n₂
  runE2 : {k e : ℕ} {p : State} {o : Found} {n n₁ n₂ n₃ n₄ : Now}
      → ⟦ Goes pay n n₁ ⟧ → c ⊢ ⇝tl k e p 0 (outer c p) n₁ n₂ o → NoState o
      → ⟦ Goes (note during_point p) n₂ n₃ ⟧ → c ⊢ ⇝a k p [] (code c (during c p)) n₃ n₄ abandoned
      → c ⊢ ⇝runS k e p n n₄
  runE3 : {k e : ℕ} {p : State} {o : Found} {st : Stack} {n n₁ n₂ n₃ n₄ n₅ : Now}
      → ⟦ Goes pay n n₁ ⟧ → c ⊢ ⇝tl k e p 0 (outer c p) n₁ n₂ o → NoState o
      → ⟦ Goes (note during_point p) n₂ n₃ ⟧ → c ⊢ ⇝a k p [] (code c (during c p)) n₃ n₄ (ran st)
      → c ⊢ ⇝tl k e p 0 (inner c p) n₄ n₅ run_abandoned
      → c ⊢ ⇝runS k e p n n₅
  -- the chart, for one event; 01 runs the root as a state
  Ch : {e : ℕ} {n n' : Now}
      → ⟦ not_started n.image ≡ false ⟧ → c ⊢ ⇝runS 8 e 0 n n'
      → c ⊢ ⇝Ch e n n'
  -- not shown in 002: the chart is started
  Start : {e : ℕ} {n n' : Now}
      → ⟦ not_started n.image ≡ true ⟧ → c ⊢ ⇝enS [] 0 n n'
      → c ⊢ ⇝Ch e n n'
