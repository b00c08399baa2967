-- `put_line`: the four fields are put one behind the other, and each has room.
use mathlib.Core.Path.{◌≡◌, sym, ap, ◌∙◌, subst}
use mathlib.Core.List.{List, [], ◌∷◌, ◌++◌}
use Prim.Native.Nat.{ℕ}
use borrow.Author.Rules.{rules}
use lib.IntN.{ℤ}
use mir.Syntax.{w32}
use mir.Val.{SFits, to_z, of_z}
use mir.ValLaws.{to_z-of_z}
use Rattle.text.specs.Ascii.{line_feed, blank}
use Rattle.text.specs.Decimal.{signed_decimal, number_text, signed_text, longest_number, longest_signed}
use Rattle.text.proofs.Puts.{WritesIfRoom, four_put}
use Rattle.text.proofs.Numbers.{number_longest, signed_longest}
use Rattle.text.proofs.Aligned.{signed_text_is}
use Rattle.listing.specs.Listing.{line}
use Rattle.listing.proofs.lines.put_line.Goals as goal

-- the text of a number that the machine has read, and the byte after it
as_text : (z : ℤ) (last : ℕ) → SFits w32 z → signed_decimal (to_z w32 (of_z w32 z)) ++ (last ∷ []) ≡ signed_text z last
as_text z last f = ap (λ (y : ℤ). signed_decimal y ++ (last ∷ [])) (to_z-of_z w32 z f) ∙ sym (signed_text_is z last)

pub returns : goal.returns
unfolding line number_text
returns c =
    let a = c.args in
    let v = a.visit in
    let n = c.number-second in
    let i = c.number-third in
    let x = c.number-fourth in
    let y = c.number in
    let fx : SFits w32 v.x = search rules in
    let fy : SFits w32 v.y = search rules in
    let both = four_put longest_number longest_number longest_signed longest_signed (number_text v.number blank) (number_text v.index blank)
    (signed_text v.x blank) (signed_text v.y line_feed) (number_longest v.number blank) (number_longest v.index blank)
    (signed_longest v.x blank) (signed_longest v.y line_feed) a.out.now a.at n.result n.new.out i.result i.new.out x.result x.new.out
    y.result y.new.out
    c.requires
    (n.ensures.end, n.ensures.text) (i.ensures.end, i.ensures.text)
    (subst (λ (s : List ℕ). WritesIfRoom longest_signed i.new.out i.result s x.result x.new.out)
    (as_text v.x blank fx) (x.ensures.end, x.ensures.text))
    (subst (λ (s : List ℕ). WritesIfRoom longest_signed x.new.out x.result s y.result y.new.out)
    (as_text v.y line_feed fy) (y.ensures.end, y.ensures.text)) in record { end = both.0; text = both.1 }
