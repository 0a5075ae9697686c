-- All numbers are octets exactly if their bitwise or is.
use Rattle.std.proofs.lemmas.Bool.{ltb-true, lt-ltb}
use Rattle.text_words.proofs.DigitLemmas.{all-octets, octets-all}
use Rattle.text_words.proofs.digits.are_octets.Goals as goal

pub returns : goal.returns
returns c = (
  λ small. all-octets c.args.first c.args.second c.args.third c.args.fourth (ltb-true _ 256 small),
  λ octets. lt-ltb _ 256 (octets-all c.args.first c.args.second c.args.third c.args.fourth octets),
)
