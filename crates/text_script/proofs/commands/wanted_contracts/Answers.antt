-- Once all words are read, these are their contracts.
use Rattle.std.proofs.Common.{◌≡◌, ◌<◌, [], length, sym, arith}
use Rattle.std.proofs.lemmas.Grind.{common_steps}
use Rattle.text_io.specs.Words.{words_of}
use Rattle.text_script.proofs.ContractWords.{reads_all}
use Rattle.text_script.proofs.commands.wanted_contracts.Goals as goal

pub returns : goal.returns
returns c =
    let ends : words_of c.loop-word.rest.now ≡ [] = c.in_default.ensures in
    let some : 0 < length c.loop-word.wanted.items = grind (arith, common_steps) in
    sym (reads_all (words_of c.args.line.now) c.loop-word.wanted.items (words_of c.loop-word.rest.now) c.loop-word.invariant ends some)
