-- What is new among checks that are asked for.
use Rattle.std.proofs.Common.{◌≡◌, ℕ, ℤ, ◌==◌, ◌&&◌, ◌||◌, List, [], ◌∷◌, ◌++◌, Bool, true, false, Result, Ok, Err, IfOk, refl, sym, ap, ap₂, ◌∙◌, subst, append_assoc, cond}
use Rattle.std.specs.Bool.{Decides}
use Rattle.std.specs.List.{list_any}
use Rattle.std.specs.Option.{is_some}
use Rattle.std.specs.Ordering.{int_eq}
use Rattle.std.proofs.lemmas.Bool.Decides.{Decides-and, Decides-eqb, Decides-int_eq}
use Rattle.std.proofs.lemmas.List.{map-append}
use Rattle.mw_model.specs.Seed.{Seed, held_at}
use Rattle.mw_protocol.specs.Checks.{Check, same_check, has_check, checks_at, unseen}
use Rattle.mw_protocol.specs.Locations
use Rattle.mw_protocol.specs.Locations.{known}
use Rattle.mw_checks.specs.Fresh.{known_checks, new_checks, Notes}
use Rattle.mw_checks.specs.Log.{AreFresh, check_of, checks_of}
use Rattle.mw_checks.proofs.Keeping.{has_check-append, same_parts, same_if}

-- ---- a pair is looked at

abbrev pub same_pair : ℕ × ℤ → ℕ × ℤ → Bool
same_pair p q = (p.0 == q.0) && int_eq p.1 q.1

bools_same : (a b : Bool) → (a ≡ true → b ≡ true) → (b ≡ true → a ≡ true) → a ≡ b
bools_same true b f g = sym (f refl)
bools_same false true f g = g refl
bools_same false false f g = refl

pairs_same : (team : ℕ) (p q : ℕ × ℤ) → same_check (check_of team q) (check_of team p) ≡ same_pair p q
pairs_same team p q =
    let tests : Decides (same_pair p q) ((p.0 ≡ q.0) × (p.1 ≡ q.1)) = Decides-and (p.0 == q.0) (int_eq p.1 q.1) (Decides-eqb p.0 q.0) (Decides-int_eq p.1 q.1) in
    bools_same (same_check (check_of team q) (check_of team p)) (same_pair p q)
    (λ h. let parts = same_parts (check_of team q) (check_of team p) h in tests.1 (sym parts.0.1, sym parts.1))
    (λ h. same_if (check_of team q) (check_of team p) refl (sym (tests.0 h).0) (sym (tests.0 h).1))

-- a pair is among others where its check is
pub pair_among : (team : ℕ) (p : ℕ × ℤ) (qs : List (ℕ × ℤ)) → has_check (checks_of team qs) (check_of team p) ≡ list_any (same_pair p) qs
pair_among team p [] = refl
pair_among team p (q ∷ qs) = ap₂ (λ (a b : Bool). a || b) (pairs_same team p q) (pair_among team p qs)

or_left : (a b : Bool) → a ≡ false → (a || b) ≡ b
or_left true b h = cc
or_left false b h = refl

pub notes_new : (seed : Seed) (checked : List Check) (team : ℕ) (pair : ℕ × ℤ) (old new : List (ℕ × ℤ)) → is_some (held_at seed pair.0 pair.1) ≡ true → has_check checked (check_of team pair) ≡ false
    → new ≡ cond (list_any (same_pair pair) old) old (old ++ pair ∷ []) → Notes seed checked team pair old new
notes_new seed checked team pair old new known fresh is = λ others.
    let c : Check = check_of team pair in
    let seen = checked ++ checks_of team old in
    let test : has_check seen c ≡ list_any (same_pair pair) old =
    has_check-append checked (checks_of team old) c ∙ or_left (has_check checked c) (has_check (checks_of team old) c) fresh ∙ pair_among team pair old in
    let taken : new_checks seed seen (c ∷ others) ≡ cond (list_any (same_pair pair) old) (new_checks seed seen others) (c ∷ new_checks seed (seen ++ c ∷ []) others) =
    ap (λ (b : Bool). unseen seen (cond b (c ∷ known_checks seed others) (known_checks seed others))) known
    ∙ ap (λ (b : Bool). cond b (new_checks seed seen others) (c ∷ new_checks seed (seen ++ c ∷ []) others)) test in
    ap (λ ps. checks_of team ps ++ new_checks seed (checked ++ checks_of team ps) others) is
    ∙ elim (list_any (same_pair pair) old) as (λ b. checks_of team (cond b old (old ++ pair ∷ [])) ++ new_checks seed (checked ++ checks_of team (cond b old (old ++ pair ∷ []))) others
    ≡ checks_of team old ++ cond b (new_checks seed seen others) (c ∷ new_checks seed (seen ++ c ∷ []) others)) [
      | true ↦ refl
      | false ↦
          let more : checks_of team (old ++ pair ∷ []) ≡ checks_of team old ++ c ∷ [] = map-append (check_of team) old (pair ∷ []) in
          ap (λ cs. cs ++ new_checks seed (checked ++ cs) others) more
          ∙ append_assoc (checks_of team old) (c ∷ []) (new_checks seed (checked ++ (checks_of team old ++ c ∷ [])) others)
          ∙ ap (λ ss. checks_of team old ++ (c ∷ new_checks seed ss others)) (sym (append_assoc checked (checks_of team old) (c ∷ [])))
    ]
    ∙ ap (λ cs. checks_of team old ++ cs) (sym taken)

pub notes_checked : (seed : Seed) (checked : List Check) (team : ℕ) (pair : ℕ × ℤ) (old : List (ℕ × ℤ)) → has_check checked (check_of team pair) ≡ true → Notes seed checked team pair old old
notes_checked seed checked team pair old seen_before = λ others.
    let c : Check = check_of team pair in
    let seen = checked ++ checks_of team old in
    let test : has_check seen c ≡ true = has_check-append checked (checks_of team old) c ∙ ap (λ (b : Bool). b || has_check (checks_of team old) c) seen_before in
    ap (λ cs. checks_of team old ++ cs)
    (elim (is_some (held_at seed pair.0 pair.1)) as (λ b. unseen seen (known_checks seed others) ≡ unseen seen (cond b (c ∷ known_checks seed others) (known_checks seed others))) [
      | true ↦ ap (λ (b : Bool). cond b (unseen seen (known_checks seed others)) (c ∷ unseen (seen ++ c ∷ []) (known_checks seed others))) (sym test)
      | false ↦ refl
    ])

pub notes_unknown : (seed : Seed) (checked : List Check) (team : ℕ) (pair : ℕ × ℤ) (old : List (ℕ × ℤ)) → is_some (held_at seed pair.0 pair.1) ≡ false → Notes seed checked team pair old old
notes_unknown seed checked team pair old unknown = λ others.
    let c : Check = check_of team pair in
    let seen = checked ++ checks_of team old in
    ap (λ (b : Bool). checks_of team old ++ unseen seen (cond b (c ∷ known_checks seed others) (known_checks seed others))) (sym unknown)

-- ---- the whole

-- the known ones of a slot, either way
pub known_at : (seed : Seed) (team slot : ℕ) (numbers : List ℤ) → known_checks seed (checks_at team slot numbers) ≡ checks_at team slot (known seed slot numbers)
known_at seed team slot [] = refl
known_at seed team slot (n ∷ ns) =
    elim (is_some (held_at seed slot n)) as (λ b. cond b (record { team = team; slot = slot; location = n } ∷ known_checks seed (checks_at team slot ns)) (known_checks seed (checks_at team slot ns))
    ≡ checks_at team slot (cond b (n ∷ known seed slot ns) (known seed slot ns))) [
      | true ↦ ap (λ cs. record { team = team; slot = slot; location = n } ∷ cs) (known_at seed team slot ns)
      | false ↦ known_at seed team slot ns
    ]

nothing_fresh : (seed : Seed) (checked : List Check) (team : ℕ) (ps : List (ℕ × ℤ)) → checks_of team ps ≡ [] → AreFresh seed checked team ps
nothing_fresh seed checked team [] e = tt
nothing_fresh seed checked team (p ∷ ps) e = cc

first_fresh : (seed : Seed) (checked rest : List Check) (team : ℕ) (c : Check) (ps : List (ℕ × ℤ)) → is_some (held_at seed c.slot c.location) ≡ true → has_check checked c ≡ false
    → checks_of team ps ≡ c ∷ rest → ((qs : List (ℕ × ℤ)) → checks_of team qs ≡ rest → AreFresh seed (checked ++ c ∷ []) team qs) → AreFresh seed checked team ps
first_fresh seed checked rest team c [] there new e later = cc
first_fresh seed checked rest team c (p ∷ ps) there new e later =
    let same : check_of team p ≡ c = cc in
    let after : checks_of team ps ≡ rest = cc in (
      subst (λ (x : Check). is_some (held_at seed x.slot x.location) ≡ true) (sym same) there,
      (subst (λ (x : Check). has_check checked x ≡ false) (sym same) new, subst (λ (x : Check). AreFresh seed (checked ++ x ∷ []) team ps) (sym same) (later ps after)),
    )

-- what is new is fresh
pub are_fresh : (seed : Seed) (asked checked : List Check) (team : ℕ) (ps : List (ℕ × ℤ)) → checks_of team ps ≡ new_checks seed checked asked → AreFresh seed checked team ps
are_fresh seed [] checked team ps e = nothing_fresh seed checked team ps e
are_fresh seed (c ∷ others) checked team ps e =
    (elim (is_some (held_at seed c.slot c.location)) as (λ b. is_some (held_at seed c.slot c.location) ≡ b → checks_of team ps ≡ unseen checked (cond b (c ∷ known_checks seed others) (known_checks seed others)) → AreFresh seed checked team ps) [
      | false ↦ (λ unknown so. are_fresh seed others checked team ps so)
      | true ↦ (λ there so.
          (elim (has_check checked c) as (λ b. has_check checked c ≡ b → checks_of team ps ≡ cond b (new_checks seed checked others) (c ∷ new_checks seed (checked ++ c ∷ []) others) → AreFresh seed checked team ps) [
            | true ↦ (λ old are. are_fresh seed others checked team ps are)
            | false ↦ (λ new are. first_fresh seed checked (new_checks seed (checked ++ c ∷ []) others) team c ps there new are (λ qs is. are_fresh seed others (checked ++ c ∷ []) team qs is))
          ]) refl so)
    ]) refl e

pub results_fresh : {E : Type 0} (seed : Seed) (asked checked : List Check) (team : ℕ) (r : Result (List (ℕ × ℤ)) E) → IfOk r (λ ps. checks_of team ps ≡ new_checks seed checked asked) → IfOk r (λ ps. AreFresh seed checked team ps)
results_fresh seed asked checked team (Ok ps) e = are_fresh seed asked checked team ps e
results_fresh seed asked checked team (Err x) e = tt

-- the new ones among a slot's locations are those of the room's definition
pub results_at : {E : Type 0} (seed : Seed) (checked : List Check) (team slot : ℕ) (numbers : List ℤ) (r : Result (List (ℕ × ℤ)) E) → IfOk r (λ ps. checks_of team ps ≡ new_checks seed checked (checks_at team slot numbers))
    → IfOk r (λ ps. checks_of team ps ≡ Locations.new_checks seed checked team slot numbers)
results_at seed checked team slot numbers (Ok ps) e = e ∙ ap (unseen checked) (known_at seed team slot numbers)
results_at seed checked team slot numbers (Err x) e = tt
