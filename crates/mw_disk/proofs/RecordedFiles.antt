-- Records of calls, the first one first.
use Rattle.std.proofs.Common.{◌≡◌, ◌<◌, ◌∙◌, ℕ, ◌+◌, List, [], ◌∷◌, ◌++◌, length, take, get_or, sym, ap, Bool}
use Rattle.std.specs.Prelude.{reverse}
use Rattle.std.proofs.lemmas.List.{reverse-append, take_more}
use Rattle.mw_disk.specs.FileLogs.{Event, after, judged_log, state_of}

-- one call more
pub kept_more : (events : List Event) (event : Event) (log : List Event) → log ≡ reverse events
    → event ∷ log ≡ reverse (events ++ event ∷ [])
kept_more events event log is = ap (λ l. event ∷ l) is ∙ sym (reverse-append events (event ∷ []))

pub judged_more : (found : List ℕ) (fresh : Bool) (events : List Event) (i : ℕ) (event : Event) → i < length events
    → event ≡ get_or events i event
    → state_of (judged_log found fresh (take (i + 1) events)) ≡ after event (state_of (judged_log found fresh (take i events)))
judged_more found fresh events i event within is =
    ap (λ l. state_of (judged_log found fresh l)) (take_more events i event within ∙ ap (λ (e : Event). take i events ++ e ∷ []) (sym is))
    ∙ ap (λ l. state_of (record (judged_log found fresh []) { events = l })) (reverse-append (take i events) (event ∷ []))
