-- Why words that `clap` refuses give no choice.
use Rattle.std.proofs.Common.{◌≡◌, [], inl, inr, subst, refl}
use Rattle.clap.specs.Values.{kind_of}
use Rattle.clap.specs.Kinds.{HasKind, IsAmong, Kinds}
use Rattle.clap.specs.declared.error.Error.{Error}
use Rattle.clap.specs.declared.error.kind.ErrorKind.{ErrorKind}
use Rattle.clap.specs.declared.error.kind.ErrorKind.TheVariants.{OutOfMemory}
use Rattle.text_command_line.specs.Stopping.{IsRequest, StopsAt}
use Rattle.text_command_line.specs.inner.StopFor.{IsStopFor}
use Rattle.text_command_line.specs.declared.stop.Stop.{Stop}
use Rattle.text_command_line.specs.declared.stop.Stop.TheVariants.{Help, Words, NoMemory}

-- Lack of memory is no request.
no_request : (kind : ErrorKind) → kind ≡ OutOfMemory → IsRequest kind → ⊥
no_request kind memory (inl help) = cc
no_request kind memory (inr version) = cc

-- What is said of an error that the words have is true of the words.
pub stops_at : (kinds : Kinds) (error : Error) (stop : Stop) → HasKind kinds error → IsStopFor (kind_of error) stop → StopsAt kinds stop
stops_at kinds error (Help text) (inl memory) is = absurd (no_request (kind_of error) memory is)
stops_at kinds error (Help text) (inr among) is = (kind_of error, among, is)
stops_at kinds error (Words text) (inl memory) is = absurd (is.1 memory)
stops_at kinds error (Words text) (inr among) is = (kind_of error, among, is.0)
stops_at kinds error NoMemory h is = tt

-- Words without an error are refused only with NoMemory.
pub memory_alone : (kinds : Kinds) (error : Error) (stop : Stop) → HasKind kinds error → IsStopFor (kind_of error) stop → kinds ≡ [] → stop ≡ NoMemory
memory_alone kinds error (Help text) (inl memory) is none = absurd (no_request (kind_of error) memory is)
memory_alone kinds error (Words text) (inl memory) is none = absurd (is.1 memory)
memory_alone kinds error NoMemory h is none = refl
memory_alone kinds error stop (inr among) is none = absurd (subst (λ ks. IsAmong (kind_of error) ks) none among)
