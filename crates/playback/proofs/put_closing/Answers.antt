use Rattle.std.proofs.Common.{sym, ◌∙◌}
use borrow.Author.Tests.{eqb-true, eqb-false}
use Rattle.playback.proofs.Lines.{put-behind}
use Rattle.playback.proofs.Closing.{closing-none, closing_lines}
use Rattle.playback.proofs.put_closing.Goals as goal

pub returns-then-not-is_whole-clause-put : goal.returns-then-not-is_whole-clause-put
returns-then-not-is_whole-clause-put c =
    let other = eqb-false _ 5 (sym c.is_whole.ensures ∙ c.if-not-is_whole.true) in
    rw (closing-none c.args.p c.args.page.now.out.now c.if-page-lt-CLOSING_ROOM.false c.if-p-ge-MOST_RECORDS.false other) c.put_text.ensures

pub returns-clause-put : goal.returns-clause-put
returns-clause-put c =
    let five = eqb-true _ 5 (sym c.is_whole.ensures ∙ c.if-not-is_whole.false) in
    rw (closing_lines c.args.p c.args.page.now.out.now c.if-page-lt-CLOSING_ROOM.false c.if-p-ge-MOST_RECORDS.false five)
    (put-behind c.put_cut.ensures.put c.put_end.ensures.put)
