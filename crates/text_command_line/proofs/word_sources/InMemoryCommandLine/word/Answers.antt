-- The word in memory is copied whole.
use Rattle.std.proofs.Common.{◌∙◌, ◌++◌, [], Some, length, take, drop, ap, sym, slice_index_or}
use Rattle.std.proofs.Math.Seq.{take-append_seam}
use Rattle.text_command_line.proofs.WordLemmas.{word-there}
use Rattle.text_command_line.proofs.word_sources.InMemoryCommandLine.word.Goals as goal

pub returns-clause-copied : goal.returns-clause-copied
returns-clause-copied c = λ u.
    let word = slice_index_or c.args.self.now.0.now c.args.number (record { ref_ptr = (0, 0); now = [] }) in
    let rest = drop (length word.now) c.args.room.now in
    word-there c.args.self.now.0.now c.args.number _ c.if-number-self.false
    ∙ ap (λ octets. Some octets)
    (sym (take-append_seam word.now rest) ∙ ap (λ copied. take (length word.now) (copied ++ rest)) (sym c.copy_from_slice.ensures.after))
