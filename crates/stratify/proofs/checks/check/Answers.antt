-- `check`: 1 as loading has it, then the level, then the shapes.
use Rattle.std.specs.Prelude.{Err}
use mathlib.Core.Path.{◌≡◌, sym, ap, ◌∙◌}
use mathlib.Core.List.{List, [], ◌∷◌}
use borrow.Author.Rules.{rules}
use lib.ListN.{get_or}
use mir.Syntax.{w32}
use mir.Val.{Fits}
use Rattle.net.specs.Check.{check}
use Rattle.refusal.specs.Outcome.{Outcome, Test, first}
use Rattle.refusal.specs.Refusal.{of_judgement}
use Rattle.refusal.proofs.First.{first-none, first-refuses, first_passes, first-append}
use Rattle.refusal.proofs.Results.{stops, passes, gives}
use Rattle.plan.specs.declared.pair.Plan.{Plan}
use Rattle.plan.specs.Pair.{generators, loaded, not_a_pair, unknown_level}
use Rattle.plan.proofs.Laws.{words_valid}
use Rattle.plan.proofs.Level.{level_of}
use Rattle.stratify.specs.Answers.{of_verdict, check_outcome}
use Rattle.stratify.proofs.checks.check.Goals as goal
use Rattle.stratify.proofs.checks.check.Goals.{Start}

-- 1 alone, and what comes after it
abbrev loading : goal.Start → List Test
loading s = not_a_pair s.args.words.now ∷ []

abbrev verdict : goal.Start → Outcome Unit
verdict s = of_verdict (check (generators (loaded s.args.words.now)) s.args.level)

abbrev after : goal.Start → Outcome Unit
after s = first (unknown_level s.args.level ∷ []) (verdict s)

split : (s : goal.Start) → check_outcome s.args.words.now s.args.level ≡ first (loading s) (after s)
split s = first-append (loading s) (unknown_level s.args.level ∷ []) (verdict s)

pub returns-in_err-plan : goal.returns-in_err-plan
returns-in_err-plan c =
    let s = (goal.at.returns-in_err-plan c).Start in
    let why = c.in_err-plan.field-0.0 in
    let back : c.from_residual.result ≡ Err why = search rules in
    ap of_judgement back ∙ stops (λ P. P) (loading s) (loaded c.args.words.now) c.load.result c.load.ensures why c.in_err-plan.was (after s)
    ∙ sym (split s)

pub returns-then-unknown_level : goal.returns-then-unknown_level
returns-then-unknown_level c =
    let s = (goal.at.returns-then-unknown_level c).Start in
    sym (split s ∙ passes (λ P. P) (loading s) (loaded c.args.words.now) c.load.result c.load.ensures c.in_ok-plan.plan c.in_ok-plan.was (after s)
    ∙ first-refuses (verdict s) 2 [] (sym c.unknown_level.ensures ∙ c.if-unknown_level.true))

pub scan-requires : goal.scan-requires
scan-requires c =
    let P = c.in_ok-plan.plan in (
      words_valid P.x P.y
          (λ t. let f : Fits w32 (get_or P.x t 0) = search rules in f.fits)
          (λ t. let f : Fits w32 (get_or P.y t 0) = search rules in f.fits),
      (level_of _ (sym c.unknown_level.ensures ∙ c.if-unknown_level.false)).not_above,
      c.certified_from-start.ensures,
    )

pub returns : goal.returns
returns c =
    let s = (goal.at.returns c).Start in
    let ok = c.in_ok-plan in
    c.scan.ensures
    ∙ ap (λ (P : Plan). of_verdict (check (generators P) c.args.level))
    (gives (λ P. P) (loading s) (loaded c.args.words.now) c.load.result c.load.ensures ok.plan ok.was)
    ∙ sym (split s ∙ passes (λ P. P) (loading s) (loaded c.args.words.now) c.load.result c.load.ensures ok.plan ok.was (after s)
    ∙ first_passes (verdict s) 2 [] (sym c.unknown_level.ensures ∙ c.if-unknown_level.false) ∙ first-none (verdict s))
