-- What clap says of a parse.
use Rattle.std.proofs.Common.{◌≡◌, ◌≢◌, ◌∙◌, List, ℕ, [], true, ap, subst, inl, inr}
use Rattle.clap.specs.Words.{App, HasKind, HasMatchesOf, IsAmong, fault_of, first_of, first_value, found_of, kind_of}
use Rattle.clap.specs.Faults.{is_simple_and_free}
use Rattle.clap.specs.declared.error.Error.{Error}
use Rattle.clap.specs.declared.error.kind.ErrorKind.TheVariants.{OutOfMemory}
use Rattle.clap.specs.declared.parser.matches.ArgMatches.{ArgMatches}
use Rattle.clap.proofs.WalkLemmas.{both, first_value-rows}
use Rattle.mw_words.specs.Words.{faults, given}

-- what is found is what the words give
pub found_is : (app : App) (words : List (List ℕ)) (m : ArgMatches) (id : List ℕ) → is_simple_and_free app ≡ true → HasMatchesOf app words m → first_value (found_of m) id ≡ given app words id
unfolding given
found_is app words m id simple has = first_value-rows (found_of m) id ∙ ap (first_of id) (has (both _ _ simple).0).0

-- where there are matches nothing is at fault
pub none_at_fault : (app : App) (words : List (List ℕ)) → fault_of app words ≡ [] → faults app words ≡ []
unfolding faults
none_at_fault app words none = none

-- an error that isn't of memory is a fault
pub some_at_fault : (app : App) (words : List (List ℕ)) (e : Error) → HasKind (fault_of app words) e → kind_of e ≢ OutOfMemory → faults app words ≢ []
unfolding faults
some_at_fault app words e (inl memory) other none = other memory
some_at_fault app words e (inr among) other none = subst (IsAmong (kind_of e)) none among
