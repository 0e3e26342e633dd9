use Rattle.std.proofs.Common.{rules, ◌+◌, ◌∷◌, [], ◌∙◌, ap, subst, drop}
use Rattle.mt_outside.specs.Stream.{Took, TookLess, one_more}
use Rattle.mt_serving.proofs.Records.{book_lines, book_lines-at, so_far-less, so_far-more}
use Rattle.mt_serving.proofs.recording.write_lines.Goals as goal

pub returns-in_default-write_all : goal.returns-in_default-write_all
returns-in_default-write_all g c =
    let written = g.W.Sink.written in
    let l = c.loop-entry in
    let book = c.args.book.now in
    let entry = c.entry-item.result in
    let line = book_lines (entry ∷ []) in
    let less : TookLess (written l.out) (written c.write_all.new.sink) line = subst (TookLess (written l.out) (written c.write_all.new.sink)) (c.deref.ensures.value ∙ c.in-Ok.ensures) c.in_default-write_all.ensures.less in (
      so_far-less c.writings_add_up.ensures (book_lines book) line (book_lines (drop l.entry-index book)) (book_lines (drop (l.entry-index + 1) book)) (written c.args.out.now) (written l.out) (written c.write_all.new.sink)
          l.invariant.so_far (book_lines-at book l.entry-index entry c.loop-entry-test.true c.entry-item.is) less,
      c.write_all.ensures.cause.rose (search rules) ∙ ap one_more l.invariant.calm,
    )

pub loop-entry-preserved : goal.loop-entry-preserved
loop-entry-preserved g c =
    let written = g.W.Sink.written in
    let l = c.loop-entry in
    let book = c.args.book.now in
    let entry = c.entry-item.result in
    let line = book_lines (entry ∷ []) in
    let took : Took (written l.out) (written c.write_all.new.sink) line = subst (Took (written l.out) (written c.write_all.new.sink)) (c.deref.ensures.value ∙ c.in-Ok.ensures) c.in-Ok-write_all.ensures.took in
    record {
      so_far = so_far-more c.writings_add_up.ensures (book_lines book) line (book_lines (drop l.entry-index book)) (book_lines (drop (l.entry-index + 1) book)) (written c.args.out.now) (written l.out) (written c.write_all.new.sink)
          l.invariant.so_far (book_lines-at book l.entry-index entry c.loop-entry-test.true c.entry-item.is) took;
      calm = c.write_all.ensures.cause.stays (search rules) ∙ l.invariant.calm;
    }
