-- From the rules to the definitions: where 002's rules, as 01 narrows them, go, the definitions go; by the derivation, rule by
-- rule. What an arrow means says where it may begin: a run and a search where the state is active and the shape holds, leaving
-- where that is so from the state on, entering where the image is sound. Assumes nothing.
use mathlib.Core.Path.{◌≡◌, refl, sym, ◌∙◌}
use mathlib.Core.Logic.{inl}
use mathlib.Core.Bool.{true, false}
use mathlib.Core.List.Memᴰ
use mathlib.Core.List.{List, [], ◌∷◌}
use Prim.Native.Nat.{ℕ, zero, suc, ◌+◌, ◌<◌}
use native.Mathlib.Omega.{arith}
use lib.Dec.{eqb}
use borrow.Author.Tests.{ne_eqb}
use Rattle.rules.specs.Lists.{when◌then◌else◌, every, first}
use Rattle.rules.specs.Chart as C
use Rattle.rules.specs.Accept.{is_send, op_rule}
use Rattle.rules.specs.Chart.{State, Segment, Chart, Op, Instruction, states, segments, entry, during, exit, transition_action, is_one_of, children, outer, inner, code}
use Rattle.rules.specs.Image.{is_active, not_started, accepted}
use Rattle.rules.specs.Doing.{Now, Done, pay, during_point, note, each, when_active}
use Rattle.rules.specs.Block.{Stack, Ran, ran, abandoned, unless_abandoned, no_send, send_from, instruct, perform}
use Rattle.rules.specs.Search.{Found, reached, nowhere, ended, run_abandoned, search}
use Rattle.rules.specs.Fire.{levels, leave_each, parent_records, leave, enter_each, enter, arena, transit, fire}
use Rattle.rules.specs.Run.{follow, run_active, run_children, run_inside, run_during, run, send, start, step}
use Rattle.rules.proofs.Laws.{both, clash}
use Rattle.rules.proofs.Members.{Mem, is_in-mem}
use Rattle.rules.proofs.Taken.{Child, Tree, Right, has_operands, Silent, tree, children-mem, entry-silent, exit-silent, transition-silent, during-valid, condition_action-valid}
use Rattle.rules.proofs.Trees.{Deep, deep-child, deep-end}
use Rattle.rules.proofs.Soundness.{Sound}
use Rattle.rules.proofs.Shape.{Good}
use Rattle.rules.proofs.Firing.{Going, Path, up_root, up-arena}
use Rattle.rules.proofs.Running.{Reach, Got, no_way, going, t-send, t-run, t-passes}
use Rattle.rules.proofs.Accepting.{sound, started-good}
use Rattle.semantics.specs.Relation as R
use Rattle.semantics.specs.Relation.{Arrow, ◌⊢◌, Gives, Goes, ActiveChild, Descent, tail, towards, NoState, failed, terminal}
use Rattle.semantics.proofs.Inverting.{kept, paid, noted, then-goes, bind_goes, give-goes, done-goes, look-goes, yes-goes, no-goes, active-goes, idle-goes, none-goes, more-goes}
use Rattle.semantics.proofs.Actions.{silent-here, skip-goes, seq-goes, seq-abandoned-goes, action-goes, transit-goes}
use Rattle.semantics.proofs.Exits.{from-records, Standing, Remaining, standing-child, standing-first, remaining-rest, left_after, exO-goes, unrecorded-goes, exS1-goes, exA-goes}
use Rattle.semantics.proofs.Towards.{Towards, on-way, off-way, each_way}
use Rattle.semantics.proofs.Entries.{all-goes, enO1-goes, enO2-goes, enO3-goes, enter-goes, ready-sound, record-child, no_record, enter-sound}
use Rattle.semantics.proofs.Sends.{named, plain-goes, send-goes, unsend-goes, ins-kept}
use Rattle.semantics.proofs.Searching.{passes-goes, along-nothing, noted-kept}
use Rattle.semantics.proofs.Finding.{Passing, Finds, none_tried, fail-goes, reached-stops, ended-stops, abandoned-stops, next-goes, nowhere-kept, state-goes, early-goes, junction-goes}
use Rattle.semantics.proofs.Sound.{active-child, standing, transit-sound, searched-kept, during-kept, outer-real, inner-real}

-- the children of p are m levels down; so is each of a list
abbrev Down : Chart → ℕ → State → Type 0
Down c m p = (k : State) → Child c p k → Deep c m k

abbrev At : Chart → ℕ → List State → Type 0
At c m ps = (k : State) → Mem k ps → (k < states c) × Deep c m k

-- what an arrow says of the definitions, m levels down with d to go
abbrev Meaning : Chart → Arrow → Type 0
Meaning c (R.⇝i k p st i n n' r) =
    (has_operands c i ≡ true → Going c p n.image → Gives (instruct (send_from p (send c k)) i.op i st) n r n')
    × (is_send i.op ≡ false → Gives (instruct no_send i.op i st) n r n')
Meaning c (R.⇝a k p st is n n' r) =
    (every (has_operands c) is ≡ true → Going c p n.image → Gives (perform (send_from p (send c k)) st is) n r n')
    × (Silent is → Gives (perform no_send st is) n r n')
Meaning c (R.⇝at p path n n') = Path c path → Goes (each (transit c) path) n n'
Meaning c (R.⇝t k e p l t n n' b) = t < segments c → Going c p n.image → Passing c k e p l t n n' b
Meaning c (R.⇝tl k e p l ts n n' o) = Finds c k e p l ts n n' o
Meaning c (R.⇝exS p n n') =
    (d m : ℕ) → m + d ≡ 9 → p < states c → Deep c m p → Standing c p n.image → (n'' : Now) → Goes (parent_records c p) n' n''
    → Goes (leave c d p) n n''
Meaning c (R.⇝exC p n n') =
    (d m : ℕ) → m + d ≡ 9 → p < states c → Down c m p → Standing c p n.image → Goes (leave_each c (leave c d) p) n n'
Meaning c (R.⇝exSL ps n n') =
    (d m : ℕ) → m + d ≡ 9 → (p : State) → p < states c → is_one_of c p ≡ false → Down c m p → Remaining c p ps n.image
    → Goes (each (λ k. when_active k (leave c d k)) ps) n n'
Meaning c (R.⇝enS h p n n') =
    (d m : ℕ) → m + d ≡ 9 → (t : State) → t < states c → Towards c t p (tail h) → p < states c → Deep c m p → Sound c n.image
    → Goes (enter c d t p) n n'
Meaning c (R.⇝enC h p n n') =
    (d m : ℕ) → m + d ≡ 9 → (t : State) → t < states c → Towards c t p h → p < states c → Down c m p → Sound c n.image
    → Goes (enter_each c (enter c d t) t p) n n'
Meaning c (R.⇝enSL h ps n n') =
    (d m : ℕ) → m + d ≡ 9 → (t : State) → t < states c → ((k : State) → Mem k ps → Towards c t k (tail (towards k h))) → At c m ps
    → Sound c n.image → Goes (each (enter c d t) ps) n n'
Meaning c (R.⇝runS k e p n n') = (d m : ℕ) → m + d ≡ 9 → Deep c m p → Going c p n.image → Goes (run c (send c k) e d p) n n'
Meaning c (R.⇝runC k e p n n') =
    (d m : ℕ) → m + d ≡ 9 → Down c m p → Going c p n.image → Goes (run_children c (run c (send c k) e d) p) n n'
Meaning c (R.⇝runSL k e ps n n') =
    (d m : ℕ) → m + d ≡ 9 → At c m ps → Good c n.image → Goes (each (λ s. when_active s (run c (send c k) e d s)) ps) n n'
Meaning c (R.⇝Ch e n n') = accepted n.image c ≡ true → Goes (step c e) n n'

not-reached : {h : State} {path : List Segment} → reached h path ≡ ended → ⊥
not-reached e = let z : ◌≡◌ {A = ℕ} 0 1 = cc in omega arith

not-abandoned : run_abandoned ≡ ended → ⊥
not-abandoned e = let z : ◌≡◌ {A = ℕ} 0 1 = cc in omega arith

module _ (c : Chart) (rt : Right c) where
  tr : Tree c
  tr = tree c rt

  fire-goes : (p s : State) (path : List Segment) → Reach c s path → (h : List State) (n n₁ n₂ n₃ : Now) → Going c p n.image
      → Meaning c (R.⇝exC (arena c p s path) n n₁) → Meaning c (R.⇝at p path n₁ n₂) → Descent c (arena c p s path) h s
      → Meaning c (R.⇝enC h (arena c p s path) n₂ n₃) → Goes (fire c p s path) n n₃
  unfolding fire
  fire-goes p s path r h n n₁ n₂ n₃ (g, u) x y d z =
      let a = up-arena c rt n.image g p s path u in
      let exits = x 9 0 refl a.state (λ k ch. tt) (standing c rt g a) in
      let acts = y r.route.inside in
      then-goes exits
      (then-goes acts (z 9 0 refl s r.state (inl d) a.state (λ k ch. tt)
      (transit-sound c rt (arena c p s path) path r.route.inside g.sound exits acts)))

  module _ (k e : ℕ) (p : State) where
    -- what a state's list finds
    found : (ts : List Segment) → Path c ts → (n n' : Now) (o : Found) → (o ≡ ended → ⊥) → Finds c k e p 0 ts n n' o
        → Going c p n.image → Gives (search c (send c k) e p ts) n o n'
    unfolding search
    found [] real n n' o d (a, b) g = absurd (d a)
    found (t ∷ ts) real n n' o d x g =
        rw (along-nothing o) at (x 128 [] refl (omega arith) (λ u i. no_way c rt u (real u i)) g)

    none_found : (ts : List Segment) → Path c ts → (n n' : Now) (o : Found) → NoState o → Finds c k e p 0 ts n n' o
        → Going c p n.image → (o' : Found) × NoState o' × Gives (search c (send c k) e p ts) n o' n'
    unfolding search
    none_found [] real n n' o s (a, b) g = (nowhere, failed, rw b (none_tried c k e p 128 []))
    none_found (t ∷ ts) real n n' o s x g =
        (o, s, rw (along-nothing o) at (x 128 [] refl (omega arith) (λ u i. no_way c rt u (real u i)) g))

    -- with no state found the run goes on, and p is there
    follow-none : (o : Found) (m : Done) {n n' : Now} → NoState o → Got c p o n.image → (Going c p n.image → Goes m n n')
        → Goes (follow c p o m) n n'
    unfolding follow
    follow-none nowhere m failed g w = w g
    follow-none ended m terminal g w = w g
    follow-none (reached _ _) m none g w = elim none [ ]
    follow-none run_abandoned m none g w = elim none [ ]

    follow-state : (h : State) (path : List Segment) (m : Done) {n n' : Now} → Goes (fire c p h path) n n'
        → Goes (follow c p (reached h path) m) n n'
    unfolding follow
    follow-state h path m w = w

    follow-abandoned : (m : Done) {n : Now} → Goes (follow c p run_abandoned m) n n
    unfolding follow
    follow-abandoned m = done-goes

    -- m levels down, with d to go: never with none
    level : (n n' : Now) → ((d m : ℕ) → m + d ≡ 9 → Down c m p → Going c p n.image → Goes (run c (send c k) e (suc d) p) n n')
        → Meaning c (R.⇝runS k e p n n')
    level n n' f zero m l deep g = absurd (deep-end c tr m p (omega arith) g.1.state deep)
    level n n' f (suc d) m l deep g = f d (suc m) (omega arith) (λ s ch. deep-child c tr m deep ch) g

    module _ (d : ℕ) where
      abbrev f : State → Done
      f = run c (send c k) e d

      run-goes : (o : Found) {n n₁ n₂ n₃ : Now} → Goes pay n n₁ → Gives (search c (send c k) e p (outer c p)) n₁ o n₂
          → Goes (follow c p o (run_during c (send c k) e f p)) n₂ n₃ → Goes (run c (send c k) e (suc d) p) n n₃
      unfolding run
      run-goes o pd x w = then-goes pd (bind_goes _ x w)

      -- no state by the outer list
      outer-none : {n n₁ n₂ n₃ : Now} (o : Found) → Goes pay n n₁ → Going c p n.image → Finds c k e p 0 (outer c p) n₁ n₂ o
          → NoState o → (Going c p n₂.image → Goes (run_during c (send c k) e f p) n₂ n₃)
          → Goes (run c (send c k) e (suc d) p) n n₃
      outer-none {n} {n₁} {n₂} o pd g x s w =
          let real = outer-real c rt p in
          let g₁ = paid (Going c p) pd g in
          let (o', s', y) = none_found (outer c p) real n₁ n₂ o s x g₁ in
          run-goes o' pd y (follow-none o' _ s' (searched-kept c rt k e p (outer c p) real y g₁) w)

      during-goes : (r : Ran) {n n₁ n₂ n₃ : Now} → Goes (note during_point p) n n₁
          → Gives (perform (send_from p (send c k)) [] (code c (during c p))) n₁ r n₂
          → Goes (unless_abandoned r tt (λ _. run_inside c (send c k) e f p)) n₂ n₃ → Goes (run_during c (send c k) e f p) n n₃
      unfolding run_during
      during-goes r i a w = then-goes i (bind_goes _ a w)

      ran-goes : (st : Stack) (o : Found) {n n₁ n₂ : Now} → Gives (search c (send c k) e p (inner c p)) n o n₁
          → Goes (follow c p o (run_children c f p)) n₁ n₂
          → Goes (unless_abandoned (ran st) tt (λ _. run_inside c (send c k) e f p)) n n₂
      unfolding unless_abandoned run_inside
      ran-goes st o x w = bind_goes _ x w

      abandoned-goes : {n : Now} → Goes (unless_abandoned abandoned tt (λ _. run_inside c (send c k) e f p)) n n
      unfolding unless_abandoned
      abandoned-goes = give-goes

    -- no state by the outer list, and the during action comes to its end
    after-during : (d : ℕ) (o : Found) {n n₁ n₂ n₃ n₄ n₅ : Now} {st : Stack} → Goes pay n n₁ → Going c p n.image
        → Finds c k e p 0 (outer c p) n₁ n₂ o → NoState o → Goes (note during_point p) n₂ n₃
        → Meaning c (R.⇝a k p [] (code c (during c p)) n₃ n₄ (ran st))
        → (Going c p n₄.image
        → Goes (unless_abandoned (ran st) tt (λ _. run_inside c (send c k) e (run c (send c k) e d) p)) n₄ n₅)
        → Goes (run c (send c k) e (suc d) p) n n₅
    after-during d o pd g x s i a w =
        outer-none d o pd g x s (λ g₂.
        let a' = a.0 (during-valid c rt p g.1.state).operands (noted (Going c p) during_point p i g₂) in
        during-goes d _ i a' (w (during-kept c rt k e p i a' g₂)))

    -- a path is found, and fired
    fires : (ts : List Segment) → Path c ts → (m : Done) (s : State) (path : List Segment) (h : List State) (n n₁ n₂ n₃ n₄ : Now)
        → Going c p n.image → Gives (search c (send c k) e p ts) n (reached s path) n₁
        → Meaning c (R.⇝exC (arena c p s path) n₁ n₂) → Meaning c (R.⇝at p path n₂ n₃) → Descent c (arena c p s path) h s
        → Meaning c (R.⇝enC h (arena c p s path) n₃ n₄) → Goes (follow c p (reached s path) m) n₁ n₄
    fires ts real m s path h n n₁ n₂ n₃ n₄ g y x a d z =
        let (r, g₁) = searched-kept c rt k e p ts real y g in
        follow-state s path m (fire-goes p s path r h n₁ n₂ n₃ n₄ g₁ x a d z)

    runO-goes : (d : ℕ) {q : State} {n n' : Now} → is_one_of c p ≡ true → Going c p n.image → ActiveChild c n.image p q
        → (Going c q n.image → Child c p q → Goes (run c (send c k) e d q) n n')
        → Goes (run_children c (run c (send c k) e d) p) n n'
    unfolding run_children run_active
    runO-goes d {q} {n} {n'} o g a w =
        let (q', ch', on, is, only) = active-child c rt p n.image g o in
        let ch = children-mem c p (is_in-mem q (children c p) a.child) in
        let same : first (is_active n.image) (children c p) ≡ q = is ∙ sym (only q ch a.active) in
        let v = w (going c rt ch.state n.image (a.active, g.0)) ch in
        let some : eqb (first (is_active n.image) (children c p)) 0 ≡ false = rw same (ne_eqb q 0 (λ z. omega arith)) in
        yes-goes _ _ _ o (bind_goes _ look-goes (no-goes _ _ _ some (rw same v)))

    runA-goes : (d : ℕ) {n n' : Now} → is_one_of c p ≡ false
        → Goes (each (λ s. when_active s (run c (send c k) e d s)) (children c p)) n n'
        → Goes (run_children c (run c (send c k) e d) p) n n'
    unfolding run_children
    runA-goes d o w = no-goes _ _ _ o w

  enS-goes : (h p : State) {n n' : Now} → ((d m : ℕ) → m + d ≡ 9 → Down c m p → Goes (enter c (suc d) h p) n n')
      → (d m : ℕ) → m + d ≡ 9 → p < states c → Deep c m p → Goes (enter c d h p) n n'
  enS-goes h p x zero m l q deep = absurd (deep-end c tr m p (omega arith) q deep)
  enS-goes h p x (suc d) m l q deep = x d (suc m) (omega arith) (λ k ch. deep-child c tr m deep ch)

  at-children : (m : ℕ) (p : State) → Down c m p → At c m (children c p)
  at-children m p deep k i = let ch = children-mem c p i in (ch.state, deep k ch)

  at_rest : (m : ℕ) (p : State) (ps : List State) → At c m (p ∷ ps) → At c m ps
  at_rest m p ps at k i = at k (Memᴰ.tail i)

  here : (i : Instruction) (is : List Instruction) → every (has_operands c) (i ∷ is) ≡ true
      → (has_operands c i ≡ true) × (every (has_operands c) is ≡ true)
  unfolding every
  here i is v = both (has_operands c i) _ v

  start-goes : (e : ℕ) {n n' : Now} → not_started n.image ≡ true → Goes (enter c levels 0 0) n n' → Goes (step c e) n n'
  unfolding step start when◌then◌else◌
  start-goes e s w = record { is = rw s w.is }

  step-goes : (e : ℕ) {n n' : Now} → not_started n.image ≡ false → Goes (run c (send c 8) e levels 0) n n'
      → Goes (step c e) n n'
  unfolding step when◌then◌else◌
  step-goes e s w = record { is = rw s w.is }

  sends : (o : Op) → o ≡ C.send → is_send o ≡ true
  unfolding is_send op_rule
  sends o q = rw q

  -- each rule
  goes : {j : Arrow} → c ⊢ j → Meaning c j
  goes (R.SendF {k = k} {p = p} {b = b} {st = st} {i = i} {n = n} q to on x) = (
    λ v g.
        let state = (named c rt k p b i st v q to).0 in
        send-goes c rt k p b i st v q to on (goes x 9 0 refl tt (going c rt state n.image (on, g.0))),
    λ ne. clash (sends i.op q) ne,
  )
  goes (R.SendN {k = k} {p = p} {b = b} {st = st} {i = i} q to off) = (
    λ v g. unsend-goes c rt k p b i st v q to g.1.on off,
    λ ne. clash (sends i.op q) ne,
  )
  goes (R.Plain {k = k} {p = p} {st = st} {i = i} ne w) = (λ v g. plain-goes c rt k p i st ne w, λ ne. w)
  goes (R.SeqT {k = k} {p = p} {st = st} {st₁ = st₁} {i = i} {is = is} pd x y) = (
    λ v g.
        let (v₁, v₂) = here i is v in
        let g₁ = paid (Going c p) pd g in
        let x' = (goes x).0 v₁ g₁ in
        seq-goes (send_from p (send c k)) i is st pd x' ((goes y).0 v₂ (ins-kept c rt k p i st (ran st₁) v₁ g₁ x')),
    λ s. let (ne, rest) = silent-here i is s in seq-goes no_send i is st pd ((goes x).1 ne) ((goes y).1 rest),
  )
  goes (R.SeqF {k = k} {p = p} {st = st} {i = i} {is = is} pd x) = (
    λ v g. seq-abandoned-goes (send_from p (send c k)) i is st pd ((goes x).0 (here i is v).0 (paid (Going c p) pd g)),
    λ s. seq-abandoned-goes no_send i is st pd ((goes x).1 (silent-here i is s).0),
  )
  goes (R.Skip {k = k} {p = p} {st = st}) = (λ v g. skip-goes (send_from p (send c k)) st, λ s. skip-goes no_send st)
  goes (R.SeqP {t = t} {path = path} i a x) = λ real.
      let done = action-goes c rt (transition_action c t) ((goes a).1 (transition-silent c rt t (real t (Memᴰ.head refl)))) in
      transit-goes c rt t path i done (goes x (λ u j. real u (Memᴰ.tail j)))
  goes R.SkipP = λ real. none-goes _
  goes (R.TrT {k = k} {e = e} {p = p} {t = t} x l i a) = λ real g.
      let valid = condition_action-valid c rt t real in
      let x' = passes-goes c e t x in
      let g₂ = noted-kept c rt k e p g.1.state t real x' i g in
      record { n₁ = _; n₂ = _; how = _; enabled = x'; few = l; noted = i; acted = (goes a).0 valid.operands g₂; says = refl }
  goes (R.TrF {k = k} {e = e} {p = p} {t = t} x l i a) = λ real g.
      let valid = condition_action-valid c rt t real in
      let x' = passes-goes c e t x in
      let g₂ = noted-kept c rt k e p g.1.state t real x' i g in
      record { n₁ = _; n₂ = _; how = _; enabled = x'; few = l; noted = i; acted = (goes a).0 valid.operands g₂; says = refl }
  goes (R.ToS {k = k} {e = e} {l = l} {p = p} {t = t} {ts = ts} pd x s) = λ m path z q ways g.
      state-goes c rt k e p l t m path ts z q ways pd g (goes x) s
  goes (R.ToJ1 {k = k} {e = e} {l = l} {p = p} {d = d} {t = t} {ts = ts} {path = rest} pd x s y) = λ m path z q ways g.
      junction-goes c rt k e p l t m path ts z q ways pd g (reached d rest) (goes x) s (goes y)
      (λ g₂ few. reached-stops c k e p _)
  goes (R.ToJ2 {k = k} {e = e} {l = l} {p = p} {t = t} {t' = t'} {ts = ts} {n₂ = n₂} {n₃ = n₃} pd x s y w) = λ m path z q ways g.
      junction-goes c rt k e p l t m path (t' ∷ ts) z q ways pd g nowhere (goes x) s (goes y) (λ g₂ few.
      let g₃ = nowhere-kept c rt k e p l t path n₂ n₃ z few (ways t (Memᴰ.head refl)) s g₂ (goes y) in
      next-goes c k e p _ (goes w m path z q (λ u i. ways u (Memᴰ.tail i)) g₃))
  goes (R.ToJ3 {k = k} {e = e} {l = l} {p = p} {t = t} pd x s y) = λ m path z q ways g.
      junction-goes c rt k e p l t m path [] z q ways pd g nowhere (goes x) s (goes y)
      (λ g₂ few. next-goes c k e p _ (none_tried c k e p m path))
  goes (R.ToJ4 {k = k} {e = e} {l = l} {p = p} {t = t} {ts = ts} pd x s y) = λ m path z q ways g.
      junction-goes c rt k e p l t m path ts z q ways pd g ended (goes x) s (goes y) (λ g₂ few. ended-stops c k e p _)
  goes (R.Ind {k = k} {e = e} {p = p} {t = t} {t' = t'} {ts = ts} pd x w) = λ m path z q ways g.
      let way = ways t (Memᴰ.head refl) in
      let x' = passes-goes c e t x in
      fail-goes c k e p m path (t' ∷ ts) t pd x' (goes w m path z q (λ u i. ways u (Memᴰ.tail i))
      (kept (t-passes c rt p e t way.real) x' (paid (Going c p) pd g)))
  goes (R.Fail {k = k} {e = e} {p = p} {t = t} pd x) = λ m path z q ways g.
      fail-goes c k e p m path [] t pd (passes-goes c e t x) (none_tried c k e p m path)
  goes R.Ter = (refl, refl)
  goes (R.ToE1 {k = k} {e = e} {l = l} {p = p} {t = t} {ts = ts} pd x) = λ m path z q ways g.
      early-goes c rt k e p l t m path ts z q ways pd g (goes x)
  goes (R.ToE2 {k = k} {e = e} {l = l} {p = p} {t = t} {ts = ts} pd x s y) = λ m path z q ways g.
      junction-goes c rt k e p l t m path ts z q ways pd g run_abandoned (goes x) s (goes y) (λ g₂ few. abandoned-stops c k e p _)
  goes (R.exS1 {p = p} pd x a o i) = λ d m l h deep s n'' r.
      let done = action-goes c rt (exit c p) ((goes a).1 (exit-silent c rt p h)) in
      exS1-goes c rt pd (λ d' m' l' down. goes x d' m' l' h down (paid (Standing c p) pd s)) done o i r d m l h deep
  goes (R.exO {p = p} {q = q} {n = n} {n₂ = n₂} o a x r) = λ d m l h deep s.
      let ch = children-mem c p (is_in-mem q (children c p) a.child) in
      let left = goes x d m l ch.state (deep q ch) (standing-child c rt ch s a.active) n₂ (from-records c ch r) in
      exO-goes c rt d m l h o deep s a left
  goes R.exSL0 = λ d m l p h o deep r. none-goes _
  goes (R.exSL {p = k} {ps = ks} {n₁ = n₁} x y) = λ d m l p h o deep r.
      let ch = r.kids k (Memᴰ.head refl) in
      let v = goes x d m l ch.state (deep k ch) (standing-first c rt r) n₁ (unrecorded-goes c rt h o ch) in
      let le = left_after c rt d m l ch.above ch.state (deep k ch) r.sound v in
      more-goes _ k ks (active-goes k _ (r.on k (Memᴰ.head refl)) v) (goes y d m l p h o deep (remaining-rest c rt r le))
  goes (R.exA {p = p} o x) = λ d m l h deep s. exA-goes c rt d h o s (λ r. goes x d m l p h o deep r)
  goes (R.enS {p = p} pd o i a x) = λ d m l t real way q deep s.
      let done = action-goes c rt (entry c p) ((goes a).1 (entry-silent c rt p q)) in
      enS-goes t p (λ d' m' l' down.
      enter-goes c rt d' t p pd o i done (goes x d' m' l' t real way q down (ready-sound c rt q pd o i done s))) d m l q deep
  goes (R.enO1 {p = p} {q = k} o x) = λ d m l t real way q deep s.
      let (e, ch, b, next) = on-way c rt t real way in
      enO1-goes c (enter c d t) t p o e ch.above (goes x d m l t real next ch.state (deep k ch) s)
  goes (R.enO2 {p = p} o kh y x) = λ d m l t real way q deep s.
      let (e, off) = off-way c rt t real way in
      let ch = (record-child c rt q s y).1 in
      enO2-goes c (enter c d t) t p o e y (goes x d m l t real (off _ ch) ch.state (deep _ ch) s)
  goes (R.enO3 {p = p} o y x) = λ d m l t real way q deep s.
      let (e, off) = off-way c rt t real way in
      let ch = (tree c rt).initials p q o in
      enO3-goes c (enter c d t) t p o e (no_record c rt q s y) (goes x d m l t real (off _ ch) ch.state (deep _ ch) s)
  goes R.enSL0 = λ d m l t real ways at s. none-goes _
  goes (R.enSL {h = h} {ps = ps} {p = p} {n = n} {n₁ = n₁} x y) = λ d m l t real ways at s.
      let (q, deep) = at p (Memᴰ.head refl) in
      let way = ways p (Memᴰ.head refl) in
      let v = goes x d m l t real way q deep s in
      more-goes _ p ps v (goes y d m l t real (λ k i. ways k (Memᴰ.tail i)) (at_rest m p ps at)
      (enter-sound c rt t real d m l p (towards p h) way q deep n n₁ v s).1)
  goes (R.enA {h = h} {p = p} o x) = λ d m l t real way q deep s.
      let ways : (k : State) → Mem k (children c p) → Towards c t k (tail (towards k h)) =
      λ k i. each_way c rt t real h way k (children-mem c p i) in
      all-goes c (enter c d t) t p o (goes x d m l t real ways (at-children m p deep) s)
  goes (R.runS {k = k} {e = e} {p = p} {s = s} {path = path} {h = h} {n = n} {n₁ = n₁} {n₂ = n₂} {n₃ = n₃} {n₄ = n₄} {n₅ = n₅}
      pd x ex a way en) =
      level k e p n n₅ (λ d m l deep g.
      let g₁ = paid (Going c p) pd g in
      let y = found k e p (outer c p) (outer-real c rt p) n₁ n₂ _ not-reached (goes x) g₁ in
      run-goes k e p d _ pd y
      (fires k e p (outer c p) (outer-real c rt p) _ s path h n₁ n₂ n₃ n₄ n₅ g₁ y (goes ex) (goes a) way (goes en)))
  goes (R.runS2 {k = k} {e = e} {p = p} {s = s} {path = path} {h = h} {o = o} {st = st} {n = n} {n₄ = n₄} {n₅ = n₅} {n₆ = n₆}
      {n₇ = n₇} {n₈ = n₈} pd x none i b y ex a way en) =
      level k e p n n₈ (λ d m l deep g. after-during k e p d o pd g (goes x) none i (goes b) (λ g₄.
      let z = found k e p (inner c p) (inner-real c rt p) n₄ n₅ _ not-reached (goes y) g₄ in
      ran-goes k e p d st _ z
      (fires k e p (inner c p) (inner-real c rt p) _ s path h n₄ n₅ n₆ n₇ n₈ g₄ z (goes ex) (goes a) way (goes en))))
  goes (R.runS3 {k = k} {e = e} {p = p} {o = o} {o' = o'} {st = st} {n = n} {n₄ = n₄} {n₅ = n₅} {n₆ = n₆} pd x s i b y s' w) =
      level k e p n n₆ (λ d m l deep g. after-during k e p d o pd g (goes x) s i (goes b) (λ g₄.
      let (o'', s'', z) = none_found k e p (inner c p) (inner-real c rt p) n₄ n₅ o' s' (goes y) g₄ in
      ran-goes k e p d st o'' z
      (follow-none k e p o'' _ s'' (searched-kept c rt k e p (inner c p) (inner-real c rt p) z g₄) (λ g₅. goes w d m l deep g₅))))
  goes (R.runO {k = k} {e = e} {p = p} o a x) = λ d m l deep g.
      runO-goes k e p d o g a (λ gq ch. goes x d m l (deep _ ch) gq)
  goes R.runSL0 = λ d m l at g. none-goes _
  goes (R.runSL {k = k} {e = e} {p = p} {ps = ps} {n = n} a x y) = λ d m l at g.
      let (h, deep) = at p (Memᴰ.head refl) in
      let gp = going c rt h n.image (a, g) in
      let v = goes x d m l deep gp in
      more-goes _ p ps (active-goes p _ a v)
      (goes y d m l (at_rest m p ps at) (kept (t-run c rt (send c k) (t-send c rt k) e d p h) v gp))
  goes (R.runSLN {p = p} {ps = ps} a y) = λ d m l at g. more-goes _ p ps (idle-goes p _ a) (goes y d m l (at_rest m p ps at) g)
  goes (R.runA {k = k} {e = e} {p = p} o x) = λ d m l deep g.
      runA-goes k e p d o (goes x d m l (at-children m p deep) g.0)
  goes (R.runE1 {k = k} {e = e} {p = p} {n = n} {n₁ = n₁} {n₂ = n₂} pd x) = level k e p n n₂ (λ d m l deep g.
      run-goes k e p d run_abandoned pd (found k e p (outer c p) (outer-real c rt p) n₁ n₂ run_abandoned not-abandoned (goes x) (paid (Going c p) pd g))
      (follow-abandoned k e p _))
  goes (R.runE2 {k = k} {e = e} {p = p} {o = o} {n = n} {n₄ = n₄} pd x s i b) = level k e p n n₄ (λ d m l deep g.
      outer-none k e p d o pd g (goes x) s (λ g₂. during-goes k e p d abandoned i
      ((goes b).0 (during-valid c rt p g.1.state).operands (noted (Going c p) during_point p i g₂)) (abandoned-goes k e p d)))
  goes (R.runE3 {k = k} {e = e} {p = p} {o = o} {st = st} {n = n} {n₄ = n₄} {n₅ = n₅} pd x s i b y) =
      level k e p n n₅ (λ d m l deep g. after-during k e p d o pd g (goes x) s i (goes b) (λ g₄.
      ran-goes k e p d st run_abandoned (found k e p (inner c p) (inner-real c rt p) n₄ n₅ run_abandoned not-abandoned (goes y) g₄) (follow-abandoned k e p _)))
  goes (R.Ch {e = e} {n = n} s x) = λ a.
      let g = started-good c n.image a s in
      step-goes e s (goes x 9 0 refl tt (g, up_root c rt n.image g))
  goes (R.Start {e = e} {n = n} s x) = λ a. start-goes e s
      (goes x 9 0 refl 0 (tree c rt).some (inl R.here) (tree c rt).some tt (sound c n.image a))

  pub run-complete : (k e : ℕ) (p : State) (n n' : Now) → Going c p n.image → c ⊢ R.⇝runS k e p n n'
      → Goes (run c (send c k) e levels p) n n'
  run-complete k e p n n' g x = goes x 9 0 refl tt g

  pub step-complete : (e : ℕ) (n n' : Now) → accepted n.image c ≡ true → c ⊢ R.⇝Ch e n n' → Goes (step c e) n n'
  step-complete e n n' a x = goes x a
