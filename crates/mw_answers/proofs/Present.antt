-- Who is there, one more at a time.
use Rattle.std.proofs.Common.{◌≡◌, ℕ, ◌+◌, ◌==◌, ◌&&◌, ◌||◌, ◌++◌, ◌∷◌, [], List, Bool, length, map, refl, sym, ap, ap₂, ◌∙◌, append_assoc, append-nil, arith, take, get_or, ◌<◌}
use Rattle.std.proofs.lemmas.List.{take_more, length-take-le}
use Rattle.mw_model.specs.Seed.{Slot}
use Rattle.mw_protocol.specs.Commands.{plays_in, present}
use Rattle.mw_protocol.specs.Connecting.{Member}
use Rattle.mw_protocol.specs.Players.{name_in}
use Rattle.mw_answers.specs.Names.{name_if}
use Rattle.mw_answers.specs.Present.{is_there, names_of, played_by}

pub one_more : (team slot : ℕ) (ps : List (ℕ × ℕ)) (p : ℕ × ℕ) → is_there team slot (ps ++ p ∷ []) ≡ (is_there team slot ps || ((p.0 == team) && (p.1 == slot)))
one_more team slot [] p = grind arith
one_more team slot (q ∷ ps) p = grind (arith, one_more team slot ps p)

pub one_name : (is : ℕ → Bool) (team number i : ℕ) (ss : List Slot) (s : Slot) → length ss ≡ i → names_of is team number (ss ++ s ∷ []) ≡ names_of is team number ss ++ name_if (is (number + i)) (name_in team s)
one_name is team number i [] s here =
    let last : number ≡ number + i = omega (arith, here) in
    append-nil (name_if (is number) (name_in team s)) ∙ ap (λ n. name_if (is n) (name_in team s)) last
one_name is team number i (t ∷ ss) s here =
    let last : number + 1 + length ss ≡ number + i = omega (arith, here) in
    ap (λ r. name_if (is number) (name_in team t) ++ r)
    (one_name is team (number + 1) (length ss) ss s refl ∙ ap (λ n. names_of is team (number + 1) ss ++ name_if (is n) (name_in team s)) last)
    ∙ sym (append_assoc (name_if (is number) (name_in team t)) (names_of is team (number + 1) ss) (name_if (is (number + i)) (name_in team s)))

-- the next member
pub there_next : (team n i : ℕ) (ps : List (ℕ × ℕ)) (p : ℕ × ℕ) (old new plays : Bool) (slot : ℕ) → i < length ps → p ≡ get_or ps i p → plays ≡ (p.0 == team) → slot ≡ p.1
    → old ≡ is_there team n (take i ps) → new ≡ (old || (plays && (slot == n))) → new ≡ is_there team n (take (i + 1) ps)
there_next team n i ps p old new plays slot within here team_is slot_is before made =
    let grown : take (i + 1) ps ≡ take i ps ++ p ∷ [] = take_more ps i p within ∙ ap (λ y. take i ps ++ y ∷ []) (sym here) in
    made ∙ (λ k. before k || (team_is k && (slot_is k == n))) ∙ sym (one_more team n (take i ps) p) ∙ ap (is_there team n) (sym grown)

-- the next slot
pub name_next : (is : ℕ → Bool) (team i : ℕ) (ss : List Slot) (s : Slot) (old new : List (List ℕ)) → i < length ss → s ≡ get_or ss i s
    → old ≡ names_of is team 1 (take i ss) → new ≡ old ++ name_if (is (i + 1)) (name_in team s) → new ≡ names_of is team 1 (take (i + 1) ss)
name_next is team i ss s old new within here before made =
    let grown : take (i + 1) ss ≡ take i ss ++ s ∷ [] = take_more ss i s within ∙ ap (λ y. take i ss ++ y ∷ []) (sym here) in
    let long : length (take i ss) ≡ i = length-take-le i ss (omega (arith, within)) in
    let number : i + 1 ≡ 1 + i = omega arith in
    made ∙ ap₂ (λ o n. o ++ name_if (is n) (name_in team s)) before number ∙ sym (one_name is team 1 i (take i ss) s long) ∙ ap (names_of is team 1) (sym grown)

same_there : (team slot : ℕ) (ms : List Member) → is_there team slot (map played_by ms) ≡ plays_in team slot ms
same_there team slot [] = refl
same_there team slot (m ∷ ms) = ap (λ b. ((m.team == team) && (m.slot == slot)) || b) (same_there team slot ms)

pub all_present : (is : ℕ → Bool) (team number : ℕ) (ss : List Slot) (ps : List (ℕ × ℕ)) (ms : List Member) → ((n : ℕ) → is n ≡ is_there team n ps) → map played_by ms ≡ ps → names_of is team number ss ≡ present team number ss ms
all_present is team number [] ps ms same e = refl
all_present is team number (s ∷ ss) ps ms same e =
    let here : is number ≡ plays_in team number ms = same number ∙ ap (is_there team number) (sym e) ∙ same_there team number ms in
    ap₂ (λ b rest. name_if b (name_in team s) ++ rest) here (all_present is team (number + 1) ss ps ms same e)
