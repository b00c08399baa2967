-- Digital shifts and nested scrambling obey the law, and so does one after the other; a lawful scrambling moves whole intervals.
-- Assumes nothing.
use mathlib.Core.Path.{◌≡◌, refl, sym, ap, ap₂, ◌∙◌}
use mathlib.Core.Logic.{◌↔◌}
use Prim.Native.Nat.{ℕ, zero, suc, ◌+◌, ◌-◌, ◌*◌, ◌/◌, ◌%◌, ◌^◌, ◌≤◌, ◌<◌}
use native.Mathlib.Nat.{div-one, mod-lt, div-add-mod', div-div-eq-div-mul, div-eq_of_lt, pow-zero, pow-suc, mul-div_cancel}
use native.Mathlib.Nat.{add-zero, mod-one, mul-one}
use native.Mathlib.Omega.{arith}
use lib.Arith.{digits_div, digits_mod, digits_lt}
use Rattle.ranges.specs.Unique.{Only}
use Rattle.ranges.proofs.Pigeon.{onto}
use Rattle.digits.specs.Digits.{digit, plus, minus}
use Rattle.digits.proofs.Remainder.{join-high, join-low, take_back, add_back}
use Rattle.digits.proofs.Digit.{pow_pos, digit_lt, div-suc, join_lt, mod-pow-suc}
use Rattle.digits.proofs.Arithmetic.{plus-zero, plus_lt, plus-div, plus_cancel, minus_plus, minus_lt, minus-div}
use Rattle.net.specs.Generators.{Generators}
use Rattle.net.specs.Sequence.{Sequence, Fits, top, column, row, VisitIn}
use Rattle.net.specs.Scrambling.{Scrambling, scrambled, plain, PrefixBijection, Lawful, RightInverse, prefix_before, shifted}
use Rattle.net.specs.Scrambling.{nested, Permutes, adding, unnested, LeadsBack, taking}
use Rattle.net.specs.Scramblings.{LawfulScramblings, UndoneScramblings, Moves}
use Rattle.net.proofs.Interval.{top_lt}

-- a shift by 0 is none
pub unshifted : (G : Generators) → 1 < G.b → shifted G 0 0 ≡ plain G
unshifted G big = λ i. record { b = G.b; R = G.R; x = λ n. plus-zero big ((plain G).x n) i; y = λ n. plus-zero big ((plain G).y n) i }

module _ {b : ℕ} (big : 1 < b) (R : ℕ) where
  pub unchanged-lawful : PrefixBijection b R (λ w. w)
  unchanged-lawful = record { fits = λ w h. h; prefix_iff = λ t v w l hv hw. (λ e. e, λ e. e) }

  pub composed : (f g : ℕ → ℕ) → PrefixBijection b R f → PrefixBijection b R g → PrefixBijection b R (λ w. g (f w))
  composed f g F H = record {
    fits = λ w h. H.fits (f w) (F.fits w h);
    prefix_iff = λ t v w l hv hw.
        let below = F.prefix_iff t v w l hv hw in
        let above = H.prefix_iff t (f v) (f w) l (F.fits v hv) (F.fits w hw) in
        (λ e. above.0 (below.0 e), λ e. below.1 (above.1 e));
  }

  pub shift-lawful : (s : ℕ) → s < b ^ R → PrefixBijection b R (λ w. plus b w s)
  shift-lawful s h = record {
    fits = λ w hw. plus_lt big R w s hw h;
    prefix_iff = λ t v w l hv hw. (
      λ e. plus-div big (R - t) v s ∙ ap (λ (x : ℕ). plus b x (top b R t s)) e ∙ sym (plus-div big (R - t) w s),
      λ e. plus_cancel big (top b R t v) (top b R t w) (top b R t s) (sym (plus-div big (R - t) v s) ∙ e ∙ plus-div big (R - t) w s),
    );
  }

  -- ---- nested scrambling

  -- none of the digits, all of them, and one more from the top
  pub top-none : (w : ℕ) → w < b ^ R → top b R 0 w ≡ 0
  top-none w h = let e : R - 0 ≡ R = omega arith in ap (λ (k : ℕ). w / b ^ k) e ∙ div-eq_of_lt h

  top_all : (w : ℕ) → top b R R w ≡ w
  top_all w = let e : R - R ≡ 0 = omega arith in ap (λ (k : ℕ). w / b ^ k) e ∙ ap (λ (x : ℕ). w / x) (pow-zero b) ∙ div-one w

  pub top-suc : (t w : ℕ) → suc t ≤ R → top b R (suc t) w ≡ top b R t w * b + digit b (R - suc t) w
  top-suc t w l =
      let e : R - t ≡ suc (R - suc t) = omega arith in
      sym (div-add-mod' (top b R (suc t) w) b)
      ∙ ap (λ (x : ℕ). x * b + digit b (R - suc t) w)
      (div-div-eq-div-mul w (b ^ (R - suc t)) b ∙ ap (λ (x : ℕ). w / x) (sym (pow-suc b (R - suc t)) ∙ ap (λ (k : ℕ). b ^ k) (sym e)))

  -- a number made from the top, a digit g t after the t digits f t
  module _ (f g : ℕ → ℕ) (none : f 0 ≡ 0) (more : (t : ℕ) → f (suc t) ≡ f t * b + g t) (digits : (t : ℕ) → g t < b) where
    from-top_lt : (t : ℕ) → f t < b ^ t
    from-top_lt zero = rw none (pow_pos big 0)
    from-top_lt (suc t) = rw (more t, pow-suc b t) (digits_lt (from-top_lt t) (digits t))

    -- its t highest digits
    from-top : (d t : ℕ) → f (d + t) / b ^ d ≡ f t
    from-top zero t = let e : 0 + t ≡ t = omega arith in ap (λ (x : ℕ). f (0 + t) / x) (pow-zero b) ∙ div-one (f (0 + t)) ∙ ap f e
    from-top (suc d) t =
        let e : suc d + t ≡ suc (d + t) = omega arith in
        sym (div-suc big d (f (suc d + t))) ∙ ap (λ (x : ℕ). x / b / b ^ d) (ap f e ∙ more (d + t))
        ∙ ap (λ (x : ℕ). x / b ^ d) (digits_div (f (d + t)) (digits (d + t))) ∙ from-top d t

    top-from-top : (t : ℕ) → t ≤ R → top b R t (f R) ≡ f t
    top-from-top t l = let e : R ≡ R - t + t = omega arith in ap (λ (x : ℕ). f x / b ^ (R - t)) e ∙ from-top (R - t) t

    -- its digit t from the top
    digit-from-top : (t : ℕ) → t < R → digit b (R - suc t) (f R) ≡ g t
    digit-from-top t h = ap (λ (x : ℕ). x % b) (top-from-top (suc t) h ∙ more t) ∙ digits_mod (f t) (digits t)

    -- where its digits from d on are those of w, they are the lowest digits of w
    module _ (w d : ℕ) (same : (t : ℕ) → d ≤ t → g t ≡ digit b (R - suc t) w) where
      rest : (j : ℕ) → d + j ≤ R → f (d + j) ≡ f d * b ^ j + top b R (d + j) w % b ^ j
      rest zero h =
          let e : d + 0 ≡ d = omega arith in
          let z : top b R (d + 0) w % b ^ 0 ≡ 0 = ap (λ (x : ℕ). top b R (d + 0) w % x) (pow-zero b) ∙ mod-one (top b R (d + 0) w) in
          let o : f d * b ^ 0 ≡ f d = ap (λ (x : ℕ). f d * x) (pow-zero b) ∙ mul-one (f d) in
          ap f e ∙ omega arith
      rest (suc j) h =
          let e : d + suc j ≡ suc (d + j) = omega arith in
          let x = top b R (suc (d + j)) w in
          let up : top b R (d + j) w ≡ x / b = sym (digits_div (top b R (d + j) w) (digit_lt big (R - suc (d + j)) w))
          ∙ ap (λ (n : ℕ). n / b) (sym (top-suc (d + j) w (omega arith))) in
          let low : x % b ^ suc j ≡ x / b % b ^ j * b + x % b = mod-pow-suc big j x in
          let high : f d * b ^ suc j ≡ f d * (b ^ j * b) = ap (λ (n : ℕ). f d * n) (pow-suc b j) in
          let above : f (d + j) ≡ f d * b ^ j + x / b % b ^ j = rest j (omega arith) ∙ ap (λ (n : ℕ). f d * b ^ j + n % b ^ j) up in
          let join : (f d * b ^ j + x / b % b ^ j) * b + x % b ≡ f d * b ^ suc j + x % b ^ suc j = omega arith in
          ap f e ∙ more (d + j) ∙ ap₂ (λ (p q : ℕ). p * b + q) above (same (d + j) (omega arith))
          ∙ join ∙ ap (λ (n : ℕ). f d * b ^ suc j + top b R n w % b ^ suc j) (sym e)

      rest-from-top : (j : ℕ) → d + j ≡ R → f R ≡ f d * b ^ j + w % b ^ j
      rest-from-top j h =
          ap f (sym h) ∙ rest j (omega arith) ∙ ap (λ (n : ℕ). f d * b ^ j + n % b ^ j) (ap (λ (n : ℕ). top b R n w) h ∙ top_all w)

  -- what leads back through nested scrambling is made from the top, too
  module _ {permute back : ℕ → ℕ → ℕ → ℕ} (leads : LeadsBack b permute back) (v : ℕ) where
    led : (t p : ℕ) → back t p (digit b (R - suc t) v) < b
    led t p = leads.digits t p (digit b (R - suc t) v) (digit_lt big (R - suc t) v)

    pub unnested_lt : (t : ℕ) → unnested b R back t v < b ^ t
    unfolding unnested
    unnested_lt = from-top_lt (λ t. unnested b R back t v) _ refl (λ t. refl) (λ t. led t _)

    unnested-top : (t : ℕ) → t ≤ R → top b R t (unnested b R back R v) ≡ unnested b R back t v
    unfolding unnested
    unnested-top = top-from-top (λ t. unnested b R back t v) _ refl (λ t. refl) (λ t. led t _)

    -- where the digits from d on pass, the lowest digits stay
    pub unnested-rest : (d : ℕ) → ((t p e : ℕ) → d ≤ t → e < b → back t p e ≡ e) → (j : ℕ) → d + j ≡ R
        → unnested b R back R v ≡ unnested b R back d v * b ^ j + v % b ^ j
    unfolding unnested
    unnested-rest d pass =
        rest-from-top (λ t. unnested b R back t v) _ refl (λ t. refl) (λ t. led t _) v d
        (λ t h. pass t _ (digit b (R - suc t) v) h (digit_lt big (R - suc t) v))

  module _ {permute : ℕ → ℕ → ℕ → ℕ} (permutes : Permutes b permute) where
    -- digit t from the top after the change
    abbrev changed : ℕ → ℕ → ℕ
    changed t w = permute t (top b R t w) (digit b (R - suc t) w)

    changed_lt : (t p w : ℕ) → permute t p (digit b (R - suc t) w) < b
    changed_lt t p w = permutes.digits t p (digit b (R - suc t) w) (digit_lt big (R - suc t) w)

    pub nested_lt : (t w : ℕ) → nested b R permute t w < b ^ t
    unfolding nested
    nested_lt t w = from-top_lt (λ t. nested b R permute t w) _ refl (λ t. refl) (λ t. changed_lt t _ w) t

    nested-top : (t w : ℕ) → t ≤ R → top b R t (nested b R permute R w) ≡ nested b R permute t w
    unfolding nested
    nested-top t w = top-from-top (λ t. nested b R permute t w) _ refl (λ t. refl) (λ t. changed_lt t _ w) t

    pub nested-digit : (t w : ℕ) → t < R → digit b (R - suc t) (nested b R permute R w) ≡ changed t w
    unfolding nested
    nested-digit t w = digit-from-top (λ t. nested b R permute t w) _ refl (λ t. refl) (λ t. changed_lt t _ w) t

    -- where the digits from d on pass, the lowest digits stay
    pub nested-rest : (d : ℕ) → ((t p e : ℕ) → d ≤ t → e < b → permute t p e ≡ e) → (w j : ℕ) → d + j ≡ R
        → nested b R permute R w ≡ nested b R permute d w * b ^ j + w % b ^ j
    unfolding nested
    nested-rest d pass w =
        rest-from-top (λ t. nested b R permute t w) _ refl (λ t. refl) (λ t. changed_lt t _ w) w d
        (λ t h. pass t (top b R t w) (digit b (R - suc t) w) h (digit_lt big (R - suc t) w))

    -- digit after digit from the top: the prefixes before and after are equal together
    agree : (t v w : ℕ) → t ≤ R → v < b ^ R → w < b ^ R → (top b R t v ≡ top b R t w) ↔ (nested b R permute t v ≡ nested b R permute t w)
    unfolding nested
    agree zero v w l hv hw = (λ e. refl, λ e. top-none v hv ∙ sym (top-none w hw))
    agree (suc t) v w l hv hw = (to (agree t v w (omega arith) hv hw), from (agree t v w (omega arith) hv hw))
      where
        d : ℕ → ℕ
        d x = digit b (R - suc t) x

        to : (top b R t v ≡ top b R t w) ↔ (nested b R permute t v ≡ nested b R permute t w) → top b R (suc t) v ≡ top b R (suc t) w
            → nested b R permute t v * b + changed t v ≡ nested b R permute t w * b + changed t w
        to ih e =
            let above = join-high (digit_lt big (R - suc t) v) (digit_lt big (R - suc t) w) (sym (top-suc t v l) ∙ e ∙ top-suc t w l) in
            ap₂ (λ (x y : ℕ). x * b + y) (ih.0 above) (ap₂ (permute t) above (ap (λ (x : ℕ). x % b) e))

        from : (top b R t v ≡ top b R t w) ↔ (nested b R permute t v ≡ nested b R permute t w)
            → nested b R permute t v * b + changed t v ≡ nested b R permute t w * b + changed t w → top b R (suc t) v ≡ top b R (suc t) w
        from ih e =
            let above = ih.1 (join-high (changed_lt t (top b R t v) v) (changed_lt t (top b R t w) w) e) in
            let below = join-low (nested b R permute t v) (nested b R permute t w)
            (changed_lt t (top b R t v) v) (changed_lt t (top b R t w) w) e in
            let same = permutes.distinct t (top b R t w) (d v) (d w) (digit_lt big (R - suc t) v) (digit_lt big (R - suc t) w)
            (ap (λ (p : ℕ). permute t p (d v)) (sym above) ∙ below) in
            top-suc t v l ∙ ap₂ (λ (x y : ℕ). x * b + y) above same ∙ sym (top-suc t w l)

    pub nesting : PrefixBijection b R (nested b R permute R)
    nesting = record {
      fits = λ w h. nested_lt R w;
      prefix_iff = λ t v w l hv hw.
          let same = agree t v w l hv hw in
          (λ e. nested-top t v l ∙ same.0 e ∙ sym (nested-top t w l), λ e. same.1 (sym (nested-top t v l) ∙ e ∙ nested-top t w l));
    }

    -- ---- nested scrambling undone: its t highest digits are those of v, for each t

    module _ {back : ℕ → ℕ → ℕ → ℕ} (leads : LeadsBack b permute back) (v : ℕ) where
      returned : (t : ℕ) → t ≤ R → v < b ^ R → nested b R permute t (unnested b R back R v) ≡ top b R t v
      unfolding nested unnested
      returned zero l h = sym (top-none v h)
      returned (suc t) l h =
          let w = unnested b R back R v in
          let p = unnested b R back t v in
          let d = digit b (R - suc t) v in
          let above : top b R t w ≡ p = unnested-top leads v t (omega arith) in
          let below : digit b (R - suc t) w ≡ back t p d =
          join-low (top b R t w) p (digit_lt big (R - suc t) w) (led leads v t p) (sym (top-suc t w l) ∙ unnested-top leads v (suc t) l) in
          ap₂ (λ (x y : ℕ). x * b + y) (returned t (omega arith) h)
          (ap₂ (permute t) above below ∙ leads.returns t p d (digit_lt big (R - suc t) v))
          ∙ sym (top-suc t v l)

    pub nesting-undone : {back : ℕ → ℕ → ℕ → ℕ} → LeadsBack b permute back → RightInverse b R (nested b R permute R) (unnested b R back R)
    nesting-undone {back} leads = record {
      fits = λ v h. unnested_lt leads v R;
      back = λ v h. returned leads v R (omega arith) h ∙ top_all v;
    }

  -- an addition to each digit permutes the digits
  pub adding_permutes : (add : ℕ → ℕ → ℕ) → Permutes b (adding b add)
  adding_permutes add = record {
    digits = λ t p d h. mod-lt (d + add t p) (omega arith);
    distinct = λ t p d e hd he same.
        sym (add_back b d (add t p) hd) ∙ ap (λ (x : ℕ). (x + (b - add t p % b)) % b) same ∙ add_back b e (add t p) he;
  }

  taking_leads_back : (add : ℕ → ℕ → ℕ) → LeadsBack b (adding b add) (taking b add)
  taking_leads_back add = record {
    digits = λ t p d h. mod-lt (d + (b - add t p % b)) (omega arith);
    returns = λ t p d h. take_back b d (add t p) h;
  }

  -- ---- one scrambling after another undone, and what undoes a lawful scrambling from one side does so from both

  composed-undone : {f g f' g' : ℕ → ℕ} → RightInverse b R f f' → RightInverse b R g g' → RightInverse b R (λ w. g (f w)) (λ w. f' (g' w))
  composed-undone {g = g} {g' = g'} u v = record {
    fits = λ w h. u.fits (g' w) (v.fits w h);
    back = λ w h. ap g (u.back (g' w) (v.fits w h)) ∙ v.back w h;
  }

  left-inverse : {f g : ℕ → ℕ} → PrefixBijection b R f → RightInverse b R f g → (w : ℕ) → w < b ^ R → g (f w) ≡ w
  left-inverse {f} {g} lawful undone w h =
      let image = lawful.fits w h in
      sym (top_all (g (f w)))
      ∙ (lawful.prefix_iff R (g (f w)) w (omega arith) (undone.fits (f w) image) h).1 (ap (top b R R) (undone.back (f w) image)) ∙ top_all w

  -- ---- each prefix is reached

  -- number y of the t highest digits, with zeros below
  abbrev lift : ℕ → ℕ → ℕ
  lift t y = y * b ^ (R - t)

  top-lift : (t y : ℕ) → top b R t (lift t y) ≡ y
  top-lift t y = mul-div_cancel y (pow_pos big (R - t))

  pub lift_lt : (t y : ℕ) → t ≤ R → y < b ^ t → lift t y < b ^ R
  lift_lt t y l h =
      let e : t + (R - t) ≡ R = omega arith in
      rw (add-zero, e) at (join_lt big t (R - t) y 0 h (pow_pos big (R - t)))

  pub before_lt : {f g : ℕ → ℕ} → RightInverse b R f g → (t c : ℕ) → t ≤ R → c < b ^ t → prefix_before b R g t c < b ^ t
  before_lt {g = g} u t c l h = top_lt big R t (g (lift t c)) l (u.fits (lift t c) (lift_lt t c l h))

  pub reached : (f : ℕ → ℕ) → PrefixBijection b R f → (t c : ℕ) → t ≤ R → c < b ^ t → (w : ℕ) × (w < b ^ R) × (top b R t (f w) ≡ c)
  reached f F t c l h =
      let (y, hy, e) = onto (b ^ t) (λ y. top b R t (f (lift t y)))
      (λ y hy. top_lt big R t (f (lift t y)) l (F.fits (lift t y) (lift_lt t y l hy)))
      (λ y z hy hz e. sym (top-lift t y) ∙ (F.prefix_iff t (lift t y) (lift t z) l (lift_lt t y l hy) (lift_lt t z l hz)).1 e ∙ top-lift t z) c h in
      (lift t y, lift_lt t y l hy, e)

  -- ---- the statements

  pub lawful_scramblings : LawfulScramblings b R
  lawful_scramblings = record {
    unchanged = unchanged-lawful;
    shift = shift-lawful;
    nesting = λ permute permutes. nesting permutes;
    nested_digits = λ permute permutes. nested-digit permutes;
    additions = adding_permutes;
    composed = composed;
    onto = reached;
  }

  pub undone_scramblings : UndoneScramblings b R
  undone_scramblings = record {
    shift = λ s h. record { fits = λ w hw. minus_lt big R w s hw h; back = λ w hw. minus_plus big w s };
    before_shift = λ s t c. minus-div big (R - t) (lift t c) s ∙ ap (λ (x : ℕ). minus b x (top b R t s)) (top-lift t c);
    nesting = λ permute back permutes leads. nesting-undone permutes leads;
    additions = taking_leads_back;
    composed = λ f g f' g'. composed-undone;
    both_sides = λ f g. left-inverse;
  }

-- ---- a scrambling moves whole intervals

pub scrambled_fits : {S : Sequence} → Fits S → {F : Scrambling} → Lawful S.b S.R F → Fits (scrambled S F)
scrambled_fits {S} fits {F} lawful = record { x = λ i. lawful.x.fits (S.x i) (fits.x i); y = λ i. lawful.y.fits (S.y i) (fits.y i) }

module _ {S : Sequence} (big : 1 < S.b) (fits : Fits S) {F : Scrambling} (lawful : Lawful S.b S.R F) (m a : ℕ) (wide : a ≤ m)
    (short : m ≤ S.R) where
  open S use {b, R}

  moved : (k v w i : ℕ) → v < b ^ R → w < b ^ R → Only (VisitIn S m a k (top b R a v) (top b R (m - a) w)) i
      → Only (VisitIn (scrambled S F) m a k (top b R a (F.x v)) (top b R (m - a) (F.y w))) i
  moved k v w i hv hw one = record {
    holds = record { in_block = one.holds.in_block; in_column = (x i).0 one.holds.in_column; in_row = (y i).0 one.holds.in_row };
    only = λ j u. one.only j (record { in_block = u.in_block; in_column = (x j).1 u.in_column; in_row = (y j).1 u.in_row });
  }
    where
      x : (j : ℕ) → (column S a j ≡ top b R a v) ↔ (column (scrambled S F) a j ≡ top b R a (F.x v))
      x j = lawful.x.prefix_iff a (S.x j) v (omega arith) (fits.x j) hv

      y : (j : ℕ) → (row S (m - a) j ≡ top b R (m - a) w) ↔ (row (scrambled S F) (m - a) j ≡ top b R (m - a) (F.y w))
      y j = lawful.y.prefix_iff (m - a) (S.y j) w (omega arith) (fits.y j) hw

  pub moves : Moves S F m a
  moves = record { moved = moved; led_back = led_back }
    where
      back : {f g : ℕ → ℕ} (u : RightInverse b R f g) (t c : ℕ) → t ≤ R → c < b ^ t → top b R t (f (g (c * b ^ (R - t)))) ≡ c
      back u t c l h = ap (top b R t) (u.back (c * b ^ (R - t)) (lift_lt big R t c l h)) ∙ top-lift big R t c

      led_back : (B : Scrambling) → RightInverse b R F.x B.x → RightInverse b R F.y B.y → (k c r i : ℕ) → c < b ^ a → r < b ^ (m - a)
          → Only (VisitIn S m a k (prefix_before b R B.x a c) (prefix_before b R B.y (m - a) r)) i → Only (VisitIn (scrambled S F) m a k c r) i
      led_back B ux uy k c r i hc hr one =
          let v = B.x (c * b ^ (R - a)) in
          let w = B.y (r * b ^ (R - (m - a))) in
          let hv = ux.fits (c * b ^ (R - a)) (lift_lt big R a c (omega arith) hc) in
          let hw = uy.fits (r * b ^ (R - (m - a))) (lift_lt big R (m - a) r (omega arith) hr) in
          rw (back ux a c (omega arith) hc, back uy (m - a) r (omega arith) hr) at (moved k v w i hv hw one)
