-- What links and gates tell of each call.
use Rattle.std.specs.Prelude.{◌≡◌, ◌+◌, ℕ, Bool, true, false, List, [], ◌∷◌, ◌++◌, Option, None, Some, Result, Ok, Err}
use Rattle.mw_link.specs.declared.link.Heard.{Heard}
use Rattle.mw_link.specs.declared.link.LinkError.{LinkError}

-- what was heard grows by an answer, and by nothing where there was none
abbrev pub Hears : {T E : Type 0} → List T → List T → Result T E → Type 0
Hears old new (Ok x) = new ≡ old ++ x ∷ []
Hears old new (Err e) = new ≡ old

-- a list of texts grows by one where a call took it, and else stays
abbrev pub Sends : {T E U : Type 0} → List T → List T → T → Result U E → Type 0
Sends old new text (Ok u) = new ≡ old ++ text ∷ []
Sends old new text (Err e) = new ≡ old

-- the answer of a gate that gave this
abbrev pub told : {L : Type 0} → Option L → Result (Option L) LinkError
told given = Ok given

-- how many links a gate has given
abbrev pub given_after : {L E : Type 0} → ℕ → Result (Option L) E → ℕ
given_after n (Ok (Some l)) = n + 1
given_after n (Ok None) = n
given_after n (Err e) = n

-- how many lines of a dial aren't hung up yet, after it gave this
abbrev pub lines_after : {L E : Type 0} → ℕ → Result L E → ℕ
lines_after n (Ok l) = n + 1
lines_after n (Err e) = n

-- whether a gate has answered that it gives no more
abbrev pub ended_after : {L E : Type 0} → Bool → Result (Option L) E → Bool
ended_after ended (Ok (Some l)) = ended
ended_after ended (Ok None) = true
ended_after ended (Err e) = ended

-- a gate that tells which links are left gives the first of them, and none only where none is left
abbrev pub Gives : {L E : Type 0} → Option (List L) → Option (List L) → Result (Option L) E → Type 0
Gives None new r = new ≡ None
Gives (Some ls) new (Ok (Some l)) = (rest : List _) × (ls ≡ l ∷ rest) × (new ≡ Some rest)
Gives (Some ls) new (Ok None) = (ls ≡ []) × (new ≡ Some [])
Gives (Some ls) new (Err e) = new ≡ Some ls

-- a property of a link that a gate gave
abbrev pub IfGiven : {L E : Type 0} → Result (Option L) E → (L → Type 0) → Type 0
IfGiven (Ok (Some l)) P = P l
IfGiven (Ok None) P = Unit {0}
IfGiven (Err e) P = Unit {0}

module _ {L : Type 0} (heard_by : L → List Heard) (sent_by : L → List (List ℕ)) (faults : L → ℕ)
    (is_shut : L → Bool) where
  -- a link over which nothing came and nothing was sent, which has not failed and isn't shut
  pub record IsNew (l : L) : Type 0 where
    pub heard : heard_by l ≡ []
    pub sent : sent_by l ≡ []
    pub unfailed : faults l ≡ 0
    pub unshut : is_shut l ≡ false
