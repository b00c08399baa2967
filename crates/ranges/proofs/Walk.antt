-- The steps of a walk as one list, for any visits and any last index. Assumes nothing.
use mathlib.Core.Path.{◌≡◌, refl, sym, ap, ap₂, ◌∙◌}
use mathlib.Core.Logic.{◌⊎◌, inl, inr, ◌≢◌}
use mathlib.Core.List.{List, [], ◌∷◌, ◌++◌, map, append-nil}
use Prim.Native.Nat.{ℕ, zero, suc, ◌+◌, ◌-◌, ◌≤◌, ◌<◌, min}
use native.Mathlib.Numerals.{add-one}
use native.Mathlib.Omega.{arith}
use borrow.Author.Tests.{lt-ltb, le-ltb, eq-eqb, ne_eqb}
use lib.ListN.{replicate}
use Rattle.ranges.specs.Range.{range}
use Rattle.ranges.specs.Walk.{Walk, Answer, visited, ended, Stepped, step, answers, after, visits_then_end, visits_given}
use Rattle.ranges.specs.Theorem.{Walked, WalkedByHand}
use Rattle.ranges.proofs.Order.{lt_or_ge}

abbrev at : ℕ → ℕ → Walk
at s l = record { next = s; left = l }

nonzero : (l : ℕ) → suc l ≡ 0 → ⊥
nonzero l e = omega arith

module _ {A : Type 0} (visit-of : ℕ → A) where
  -- ---- the list of n answers, one answer at a time

  given-no-step : (s c : ℕ) → visits_then_end visit-of 0 s c ≡ []
  unfolding range
  given-no-step s c =
      let none : min 0 c ≡ 0 = omega arith in
      let no_end : 0 - c ≡ 0 = omega arith in
      ap₂ (λ (v e : ℕ). map (λ i. visited (visit-of i)) (range s v) ++ replicate e ended) none no_end

  given-end : (n s : ℕ) → visits_then_end visit-of n s 0 ≡ replicate n ended
  unfolding range
  given-end n s =
      let none : min n 0 ≡ 0 = omega arith in
      let all : n - 0 ≡ n = omega arith in
      ap₂ (λ (v e : ℕ). map (λ i. visited (visit-of i)) (range s v) ++ replicate e ended) none all

  given-visit : (n s c : ℕ) → visits_then_end visit-of (suc n) s (suc c) ≡ visited (visit-of s) ∷ visits_then_end visit-of n (suc s) c
  unfolding range
  given-visit n s c =
      let more : min (suc n) (suc c) ≡ suc (min n c) = omega arith in
      let rest : suc n - suc c ≡ n - c = omega arith in
      ap₂ (λ (v e : ℕ). map (λ i. visited (visit-of i)) (range s v) ++ replicate e ended) more rest

  module _ (last : ℕ) where
    -- ---- the cases of a step

    pub step-none : (s : ℕ) → step visit-of last (at s 0) ≡ record { answer = ended; walk = at s 0 }
    unfolding step
    step-none s = refl

    pub step_past : (s l : ℕ) → last < s → step visit-of last (at s l) ≡ record { answer = ended; walk = at s l }
    unfolding step
    step_past s zero h = refl
    step_past s (suc l) h = simp (ne_eqb (suc l) 0 (nonzero l), lt-ltb last s h, step)

    pub step_last : (s l : ℕ) → s ≡ last → step visit-of last (at s (suc l)) ≡ record { answer = visited (visit-of s); walk = at s 0 }
    unfolding step
    step_last s l e = simp (ne_eqb (suc l) 0 (nonzero l), le-ltb last s (omega arith), eq-eqb s last e, step)

    pub step-more : (s l : ℕ) → s < last → step visit-of last (at s (suc l)) ≡ record { answer = visited (visit-of s); walk = at (suc s) l }
    unfolding step
    step-more s l h =
        let other : s ≢ last = omega arith in
        let less : suc l - 1 ≡ l = omega arith in
        simp (ne_eqb (suc l) 0 (nonzero l), le-ltb last s (omega arith), ne_eqb s last other, step)
        (λ i. record { answer = visited (visit-of s); walk = at (add-one s i) (less i) })

    -- ---- the list: c visits are ahead

    -- with none ahead
    all_ended : (w : Walk) → step visit-of last w ≡ record { answer = ended; walk = w } → (n : ℕ) → answers visit-of last n w ≡ replicate n ended
    unfolding answers
    all_ended w e zero = refl
    all_ended w e (suc n) =
        ap (λ (s : Stepped A). s.answer ∷ answers visit-of last n s.walk) e ∙ ap (λ (l : List (Answer A)). ended ∷ l) (all_ended w e n)

    next-answer : (n : ℕ) (w : Walk) (v : A) (w' : Walk) (l : List (Answer A)) → step visit-of last w ≡ record { answer = visited v; walk = w' }
        → answers visit-of last n w' ≡ l → answers visit-of last (suc n) w ≡ visited v ∷ l
    unfolding answers
    next-answer n w v w' l e rest =
        ap (λ (s : Stepped A). s.answer ∷ answers visit-of last n s.walk) e ∙ ap (λ (k : List (Answer A)). visited v ∷ k) rest

    list : (n s l c : ℕ) → c ≡ min l (suc last - s) → answers visit-of last n (at s l) ≡ visits_then_end visit-of n s c
    unfolding answers
    list zero s l c e = sym (given-no-step s c)
    list (suc n) s zero c e =
        let z : c ≡ 0 = omega arith in
        all_ended (at s 0) (step-none s) (suc n) ∙ sym (given-end (suc n) s) ∙ ap (visits_then_end visit-of (suc n) s) (sym z)
    list (suc n) s (suc l) zero e =
        all_ended (at s (suc l)) (step_past s (suc l) (omega arith)) (suc n) ∙ sym (given-end (suc n) s)
    list (suc n) s (suc l) (suc c) e = go (lt_or_ge s last) (λ q. list n (suc s) l c q) (λ q. list n s 0 0 q)
      where
        go : (s < last) ⊎ (last ≤ s) → (c ≡ min l (suc last - suc s) → answers visit-of last n (at (suc s) l) ≡ visits_then_end visit-of n (suc s) c)
            → (0 ≡ min 0 (suc last - s) → answers visit-of last n (at s 0) ≡ visits_then_end visit-of n s 0)
            → answers visit-of last (suc n) (at s (suc l)) ≡ visits_then_end visit-of (suc n) s (suc c)
        go (inl h) ih done =
            next-answer n (at s (suc l)) (visit-of s) (at (suc s) l) (visits_then_end visit-of n (suc s) c) (step-more s l h) (ih (omega arith))
            ∙ sym (given-visit n s c)
        go (inr h) ih done =
            let here : s ≡ last = omega arith in
            let z : c ≡ 0 = omega arith in
            next-answer n (at s (suc l)) (visit-of s) (at s 0) (visits_then_end visit-of n s 0) (step_last s l here) (done (omega arith))
            ∙ ap (λ (k : List (Answer A)). visited (visit-of s) ∷ k) (given-end n s ∙ sym (given-end n (suc s)))
            ∙ sym (given-visit n s 0) ∙ ap (λ (k : ℕ). visits_then_end visit-of (suc n) s (suc k)) (sym z)

    pub walked_by_hand : (w : Walk) (n : ℕ) → WalkedByHand visit-of last w n
    walked_by_hand w n = record { list = list n w.next w.left (min w.left (suc last - w.next)) refl }

    -- ---- the walk after n steps of an opened one

    last_walk : (n s l : ℕ) → s ≤ last → s + l ≤ suc last → after visit-of last n (at s l) ≡ at (min (s + min n l) last) (l - n)
    unfolding after
    last_walk zero s l h f =
        let p : s ≡ min (s + min 0 l) last = omega arith in
        let q : l ≡ l - 0 = omega arith in
        ap₂ at p q
    last_walk (suc n) s zero h f =
        let p : min (s + min n 0) last ≡ min (s + min (suc n) 0) last = omega arith in
        let q : 0 - n ≡ 0 - suc n = omega arith in
        ap (λ (t : Stepped A). after visit-of last n t.walk) (step-none s) ∙ last_walk n s 0 h (omega arith) ∙ ap₂ at p q
    last_walk (suc n) s (suc l) h f = go (lt_or_ge s last) (λ a b. last_walk n (suc s) l a b) (last_walk n s 0 h (omega arith))
      where
        go : (s < last) ⊎ (last ≤ s)
            → (suc s ≤ last → suc s + l ≤ suc last → after visit-of last n (at (suc s) l) ≡ at (min (suc s + min n l) last) (l - n))
            → after visit-of last n (at s 0) ≡ at (min (s + min n 0) last) (0 - n)
            → after visit-of last n (step visit-of last (at s (suc l))).walk ≡ at (min (s + min (suc n) (suc l)) last) (suc l - suc n)
        go (inl k) ih done =
            let p : min (suc s + min n l) last ≡ min (s + min (suc n) (suc l)) last = omega arith in
            let q : l - n ≡ suc l - suc n = omega arith in
            ap (λ (t : Stepped A). after visit-of last n t.walk) (step-more s l k) ∙ ih k (omega arith) ∙ ap₂ at p q
        go (inr k) ih done =
            let here : s ≡ last = omega arith in
            let p : min (s + min n 0) last ≡ min (s + min (suc n) (suc l)) last = omega arith in
            let q : 0 - n ≡ suc l - suc n = omega arith in
            ap (λ (t : Stepped A). after visit-of last n t.walk) (step_last s l here) ∙ done ∙ ap₂ at p q

    -- where start and count go past no index
    pub list-within : (start count n : ℕ) → start + count ≤ suc last
        → answers visit-of last n (at start count) ≡ visits_then_end visit-of n start count
    list-within start count n f = list n start count count (omega arith)

    pub walked : (start count n : ℕ) → start ≤ last → start + count ≤ suc last → Walked visit-of last start count n
    walked start count n h f =
        let end = last_walk n start count h f in
        record { list = list-within start count n f; next = ap (λ (w : Walk). w.next) end; left = ap (λ (w : Walk). w.left) end }

-- ---- the visits that were given

module _ {A : Type 0} (visit-of : ℕ → A) where
  visits_given-append : (l : List ℕ) (r : List (Answer A)) → visits_given (map (λ i. visited (visit-of i)) l ++ r) ≡ map visit-of l ++ visits_given r
  unfolding visits_given
  visits_given-append [] r = refl
  visits_given-append (i ∷ l) r = ap (λ (t : List A). visit-of i ∷ t) (visits_given-append l r)

  visits_given-ended : (k : ℕ) → visits_given {A = A} (replicate k ended) ≡ []
  unfolding visits_given
  visits_given-ended zero = refl
  visits_given-ended (suc k) = visits_given-ended k

  pub visits_given_is : (n start count : ℕ) → visits_given (visits_then_end visit-of n start count) ≡ map visit-of (range start (min n count))
  visits_given_is n start count =
      visits_given-append (range start (min n count)) (replicate (n - count) ended)
      ∙ ap (λ (t : List A). map visit-of (range start (min n count)) ++ t) (visits_given-ended (n - count))
      ∙ append-nil (map visit-of (range start (min n count)))
