-- `refusal_line`: the word and then the number, and both have room.
-- Assumes nothing.
use mathlib.Core.Path.{◌≡◌, sym, ◌∙◌}
use mathlib.Core.Bool.{true}
use Prim.Native.Nat.{◌+◌}
use native.Mathlib.Omega.{arith}
use borrow.Author.Tests.{leb-true}
use lib.Dec.{leb}
use lib.ListN.{length}
use Rattle.text.specs.Ascii.{line_feed}
use Rattle.text.specs.Decimal.{number_text, longest_number}
use Rattle.text.proofs.Puts.{Writes, writes_keeps_length, writes_then, to_if_room, from_if_room}
use Rattle.text.proofs.Numbers.{number_longest}
use Rattle.listing.specs.Listing.{refused_word, refused_text, longest_refusal}
use Rattle.listing.proofs.refusals.refusal_line.Goals as goal
use Rattle.listing.proofs.refusals.refusal_line.Goals.{Else-not-has_room}

room : (c : goal.Else-not-has_room) → leb (c.args.at + longest_refusal) (length c.args.out.now) ≡ true
room c = sym c.has_room.ensures ∙ c.if-not-has_room.false

pub returns : goal.returns
unfolding refused_text number_text
returns c =
    let a = c.args in
    let d = a.out.now in
    let u = c.bytes-next in
    let v = c.number in
    let has = room (goal.at.returns c).Else-not-has_room in
    let left = leb-true (a.at + longest_refusal) (length d) has in
    let p : Writes d a.at refused_word u.result u.new.out =
    from_if_room (length refused_word) d a.at refused_word u.result u.new.out (omega (arith, left)) (u.ensures.end, u.ensures.text) in
    let l = writes_keeps_length d a.at refused_word u.result u.new.out p (omega (arith, left)) in
    let q = from_if_room longest_number u.new.out u.result (number_text a.number line_feed) v.result v.new.out
    (omega (arith, left, p.0, l)) (v.ensures.end, v.ensures.text) in
    let both = to_if_room longest_refusal d a.at (refused_text a.number) v.result v.new.out has
    (writes_then d a.at refused_word (number_text a.number line_feed) u.result u.new.out v.result v.new.out p q
    (omega (arith, left, number_longest a.number line_feed))) in record { end = both.0; text = both.1 }
