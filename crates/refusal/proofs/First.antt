-- Laws of the ordered tests: how the first of them decides; of what is granted, of what is left in lent memory, and of what comes after.
-- Assumes nothing.
use mathlib.Core.Path.{◌≡◌, refl, sym, ap, ◌∙◌}
use mathlib.Core.Bool.{Bool, true, false}
use mathlib.Core.List.{List, [], ◌∷◌, ◌++◌}
use Prim.Native.Nat.{ℕ}
use native.Mathlib.Omega.{arith}
use Rattle.refusal.specs.Outcome.{Outcome, accepted, refused, Test, first, granted, part_left, through, then}

module _ {A : Type 0} (after : Outcome A) where
  pub first-none : first [] after ≡ after
  unfolding first
  first-none = refl

  module _ (n : ℕ) {holds : Bool} (ts : List Test) where
    pub first-refuses : holds ≡ true → first (record { number = n; holds = holds } ∷ ts) after ≡ refused n []
    unfolding first
    first-refuses e = rw e refl

    pub first_passes : holds ≡ false → first (record { number = n; holds = holds } ∷ ts) after ≡ first ts after
    unfolding first
    first_passes e = rw e refl

-- accepted is not refused
accepted_or_not : {A : Type 0} → Outcome A → ℕ
accepted_or_not (accepted a) = 0
accepted_or_not (refused n vs) = 1

pub accepted-refused : {A : Type 0} {a : A} {n : ℕ} {vs : List ℕ} → accepted a ≡ refused n vs → ⊥
unfolding accepted_or_not
accepted-refused e = let z : ◌≡◌ {A = ℕ} 0 1 = ap accepted_or_not e in omega arith

-- and what is accepted is one thing
pub accepted-same : {A : Type 0} {a b : A} → accepted a ≡ accepted b → a ≡ b
accepted-same e = cc

-- the number of a refusal is one number
number_of : {A : Type 0} → Outcome A → ℕ
number_of (accepted a) = 0
number_of (refused n vs) = n

pub refused-same : {A : Type 0} {m n : ℕ} {vs ws : List ℕ} → ◌≡◌ {A = Outcome A} (refused m vs) (refused n ws) → m ≡ n
unfolding number_of
refused-same e = ap number_of e

-- what is accepted has passed each test
module _ {A : Type 0} (after : Outcome A) (n : ℕ) (ts : List Test) {b : A} where
  pub first-accepted : (holds : Bool) → first (record { number = n; holds = holds } ∷ ts) after ≡ accepted b
      → (holds ≡ false) × (first ts after ≡ accepted b)
  unfolding first
  first-accepted true e = absurd (accepted-refused (sym e))
  first-accepted false e = (refl, e)

-- what is refused under one number has passed the tests of other numbers before
module _ {A : Type 0} (after : Outcome A) (n : ℕ) (ts : List Test) {k : ℕ} {vs : List ℕ} where
  pub first-other : (n ≡ k → ⊥) → (holds : Bool) → first (record { number = n; holds = holds } ∷ ts) after ≡ refused k vs
      → (holds ≡ false) × (first ts after ≡ refused k vs)
  unfolding first
  first-other ne true e = absurd (ne (refused-same e))
  first-other ne false e = (refl, e)

-- every test of a list
abbrev pub AllPass : List Test → Type 0
AllPass [] = Unit
AllPass (t ∷ ts) = (t.holds ≡ false) × AllPass ts

pub all_pass : {A : Type 0} (after : Outcome A) (ts : List Test) {b : A} → first ts after ≡ accepted b → AllPass ts × (after ≡ accepted b)
all_pass after [] e = (tt, sym (first-none after) ∙ e)
all_pass after (t ∷ ts) e =
    let p = first-accepted after t.number ts t.holds e in
    let q = all_pass after ts p.1 in
    ((p.0, q.0), q.1)

-- tests decide before anything else as they do by themselves
module _ {A B : Type 0} (a : A) (after : Outcome B) where
  pub refused_before : (ts : List Test) {k : ℕ} {vs : List ℕ} → first ts (accepted a) ≡ refused k vs → first ts after ≡ refused k vs
  unfolding first
  refused_before [] e = absurd (accepted-refused e)
  refused_before (t ∷ ts) {k} {vs} e = go t.holds (refused_before ts) e
    where
      again : Outcome A → Outcome B
      again (accepted a) = after
      again (refused k vs) = refused k vs

      go : (b : Bool) → (first ts (accepted a) ≡ refused k vs → first ts after ≡ refused k vs)
          → ◌≡◌ {A = Outcome A} (elim b [ true ↦ refused t.number [] | false ↦ first ts (accepted a) ]) (refused k vs)
          → ◌≡◌ {A = Outcome B} (elim b [ true ↦ refused t.number [] | false ↦ first ts after ]) (refused k vs)
      go true more e = ap again e
      go false more e = more e

  pub passed_before : (ts : List Test) {b : A} → first ts (accepted a) ≡ accepted b → first ts after ≡ after
  unfolding first
  passed_before [] e = refl
  passed_before (t ∷ ts) e =
      let p = first-accepted (accepted a) t.number ts t.holds e in
      first_passes after t.number ts p.0 ∙ passed_before ts p.1

-- and so does one test before others
module _ {A B : Type 0} (a : A) (after : Outcome B) (n : ℕ) (ts : List Test) (holds : Bool) where
  pub alone_passes : {b : A} → first (record { number = n; holds = holds } ∷ []) (accepted a) ≡ accepted b
      → first (record { number = n; holds = holds } ∷ ts) after ≡ first ts after
  unfolding first
  alone_passes e = passed_before a (first ts after) (record { number = n; holds = holds } ∷ []) e

  pub alone_refuses : {k : ℕ} {vs : List ℕ} → first (record { number = n; holds = holds } ∷ []) (accepted a) ≡ refused k vs
      → first (record { number = n; holds = holds } ∷ ts) after ≡ refused k vs
  unfolding first
  alone_refuses e = refused_before a (first ts after) (record { number = n; holds = holds } ∷ []) e

-- tests before others: what comes after the first ones is what the others come to
pub first-append : {A : Type 0} (ts us : List Test) (after : Outcome A) → first (ts ++ us) after ≡ first ts (first us after)
unfolding first
first-append [] us after = refl
first-append {A = A} (t ∷ ts) us after = go t.holds (first-append ts us after)
  where
    go : (b : Bool) → first (ts ++ us) after ≡ first ts (first us after)
        → ◌≡◌ {A = Outcome A} (elim b [ true ↦ refused t.number [] | false ↦ first (ts ++ us) after ])
        (elim b [ true ↦ refused t.number [] | false ↦ first ts (first us after) ])
    go true e = refl
    go false e = e

-- what comes after tests counts only where all of them pass
pub first_ext : {A : Type 0} (ts : List Test) {o p : Outcome A} → (AllPass ts → o ≡ p) → first ts o ≡ first ts p
unfolding first
first_ext [] h = h tt
first_ext {A} (t ∷ ts) {o} {p} h = go t.holds refl (λ e. first_ext ts (λ all. h (e, all)))
  where
    go : (b : Bool) → t.holds ≡ b → (t.holds ≡ false → first ts o ≡ first ts p)
        → ◌≡◌ {A = Outcome A} (elim b [ true ↦ refused t.number [] | false ↦ first ts o ])
        (elim b [ true ↦ refused t.number [] | false ↦ first ts p ])
    go true e more = refl
    go false e more = more e

-- what comes after a call that begins with tests comes after those tests
pub then-first : {A B : Type 0} (ts : List Test) (o : Outcome A) (p : Outcome B) → then (first ts o) p ≡ first ts (then o p)
unfolding first then
then-first [] o p = refl
then-first {A} {B} (t ∷ ts) o p = go t.holds (then-first ts o p)
  where
    go : (b : Bool) → then (first ts o) p ≡ first ts (then o p)
        → ◌≡◌ {A = Outcome B} (then {A = A} (elim b [ true ↦ refused t.number [] | false ↦ first ts o ]) p)
        (elim b [ true ↦ refused t.number [] | false ↦ first ts (then o p) ])
    go true more = refl
    go false more = more

module _ {A B : Type 0} {o : Outcome A} (one other : B) where
  pub granted-accepted : {a : A} → o ≡ accepted a → granted o one other ≡ one
  unfolding granted
  granted-accepted e = ap (λ (p : Outcome A). granted p one other) e

  pub granted-refused : {n : ℕ} {vs : List ℕ} → o ≡ refused n vs → granted o one other ≡ other
  unfolding granted
  granted-refused e = ap (λ (p : Outcome A). granted p one other) e

-- what is left in lent memory
module _ {A B : Type 0} {o : Outcome A} (part : A → B) (old : B) where
  pub refused_leaves : {n : ℕ} {vs : List ℕ} → o ≡ refused n vs → old ≡ part_left o part old
  refused_leaves e = sym (ap (λ (p : Outcome A). part_left p part old) e)

  pub accepted_hands : {a : A} → o ≡ accepted a → part a ≡ part_left o part old
  accepted_hands e = sym (ap (λ (p : Outcome A). part_left p part old) e)

module _ {A B : Type 0} {o : Outcome A} (after : Outcome B) where
  pub then-accepted : {a : A} → o ≡ accepted a → then o after ≡ after
  unfolding then
  then-accepted e = ap (λ (p : Outcome A). then p after) e

  pub then-refused : {n : ℕ} {vs : List ℕ} → o ≡ refused n vs → then o after ≡ refused n vs
  unfolding then
  then-refused e = ap (λ (p : Outcome A). then p after) e

-- what comes after is what is accepted in the end
pub then_same : {A B : Type 0} (o : Outcome A) (a : B) {b : B} → then o (accepted a) ≡ accepted b → b ≡ a
unfolding then
then_same (accepted c) a e = sym (accepted-same e)
then_same (refused n vs) a e = absurd (accepted-refused (sym e))

-- ---- an accepted value turned into another

module _ {A B : Type 0} (f : A → B) where
  pub through-first : (ts : List Test) (o : Outcome A) → through f (first ts o) ≡ first ts (through f o)
  unfolding first
  through-first [] o = refl
  through-first (t ∷ ts) o = go t.holds (through-first ts o)
    where
      go : (b : Bool) → through f (first ts o) ≡ first ts (through f o)
          → through f (elim b [ true ↦ refused t.number [] | false ↦ first ts o ])
          ≡ elim b [ true ↦ refused t.number [] | false ↦ first ts (through f o) ]
      go true more = refl
      go false more = more

  pub through-refused : (o : Outcome A) {n : ℕ} {vs : List ℕ} → refused n vs ≡ through f o → o ≡ refused n vs
  through-refused (accepted a) e = absurd (accepted-refused (sym e))
  through-refused (refused k ws) e = cc

  pub through-accepted : (o : Outcome A) {b : B} → accepted b ≡ through f o → (a : A) × ((o ≡ accepted a) × (b ≡ f a))
  through-accepted (accepted a) e = (a, (refl, accepted-same e))
  through-accepted (refused k ws) e = absurd (accepted-refused e)
