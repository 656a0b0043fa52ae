-- `iban::drop_ascii_blanks` meets its contract: as `drop_blanks`, with each byte a character of its own.
use mathlib.Core.Path.{◌≡◌, refl, sym, ◌∙◌, ap}
use native.Mathlib.Omega.{arith}
use lib.ListN.{length}
use Rattle.utf8.specs.Space.{white_space}
use Rattle.utf8.proofs.Ascii.{ascii_below}
use Rattle.utf8.proofs.Walks.{ascii_placed, placed_end}
use Rattle.iban.proofs.Blanks.{starts, past_blank, past_char, ends}
use Rattle.iban.proofs.drop_ascii_blanks.Goals as goal

pub loop-b-init : goal.loop-b-init
loop-b-init c = starts _ _ _ refl c.zeros-text.ensures

pub loop-b-preserved-then-is_white_space : goal.loop-b-preserved-then-is_white_space
loop-b-preserved-then-is_white_space c =
    let next = ascii_placed _ _ c.loop-b-test.true (ascii_below _ c.requires _ c.loop-b-test.true) in
    past_blank _ _ _ _ _ c.loop-b.invariant _ _ _ next (sym (c.is_white_space.ensures ∙ ap white_space c.from.ensures) ∙ c.if-is_white_space.true)

pub loop-b-preserved : goal.loop-b-preserved
loop-b-preserved c =
    let small = ascii_below _ c.requires _ c.loop-b-test.true in
    let next = ascii_placed _ _ c.loop-b-test.true small in
    rw c.put.ensures
    (past_char _ _ _ _ _ c.loop-b.invariant _ _ _ next (sym (c.is_white_space.ensures ∙ ap white_space c.from.ensures) ∙ c.if-is_white_space.false) small)

pub returns : goal.returns
returns c =
    let all : c.loop-b.b-index ≡ length c.args.s.now = omega arith in
    ends _ _ _ _ _ c.loop-b.invariant (placed_end _ _ c.loop-b-test.false) all
