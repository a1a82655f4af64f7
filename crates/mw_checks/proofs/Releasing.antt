-- What a release and a collect make new.
use Rattle.std.proofs.Common.{◌≡◌, ℕ, ℤ, zero, suc, ◌≤◌, ◌==◌, ◌&&◌, List, [], ◌∷◌, ◌++◌, Bool, true, false, Some, Result, Ok, Err, IfOk, length, map, drop, refl, sym, ap, ap₂, ◌∙◌, subst, append_assoc, append-nil, arith, cond}
use Rattle.std.specs.Option.{is_some}
use Rattle.std.specs.Ordering.{int_eq}
use Rattle.std.proofs.lemmas.Bool.Decides.{Decides-and, Decides-eqb, Decides-int_eq}
use Rattle.std.proofs.lemmas.List.{length-map, length-append}
use Rattle.mw_model.specs.Seed.{Seed, Held, held_among, held_at, is_owner}
use Rattle.mw_multidata.specs.OfSlot.{held_of}
use Rattle.mw_protocol.specs.Asked.{held_for, locations_among}
use Rattle.mw_protocol.specs.Checks.{Check, checks_at, unseen}
use Rattle.mw_checks.specs.Fresh.{known_checks, new_checks, looked, NotesAll}
use Rattle.mw_checks.specs.Log.{AreFresh, check_of, checks_of}
use Rattle.mw_checks.proofs.News.{are_fresh}

-- ---- fresh pairs

-- all of them are new
pub all_new : (seed : Seed) (checked : List Check) (team : ℕ) (ps : List (ℕ × ℤ)) → AreFresh seed checked team ps → new_checks seed checked (checks_of team ps) ≡ checks_of team ps
all_new seed checked team [] fresh = refl
all_new seed checked team (p ∷ ps) fresh =
    let c : Check = check_of team p in
    let known = known_checks seed (checks_of team ps) in
    ap (λ (b : Bool). unseen checked (cond b (c ∷ known) known)) fresh.0
    ∙ ap (λ (b : Bool). cond b (unseen checked known) (c ∷ unseen (checked ++ c ∷ []) known)) fresh.1.0
    ∙ ap (λ cs. c ∷ cs) (all_new seed (checked ++ c ∷ []) team ps fresh.1.1)

-- fresh pairs, and after them others that are fresh then, are all fresh
pub fresh_joined : (seed : Seed) (checked : List Check) (team : ℕ) (ps qs : List (ℕ × ℤ)) → AreFresh seed checked team ps → AreFresh seed (checked ++ checks_of team ps) team qs → AreFresh seed checked team (ps ++ qs)
fresh_joined seed checked team [] qs first later = subst (λ (cs : List Check). AreFresh seed cs team qs) (append-nil checked) later
fresh_joined seed checked team (p ∷ ps) qs first later =
    let c : Check = check_of team p in (
      first.0,
      (first.1.0, fresh_joined seed (checked ++ c ∷ []) team ps qs first.1.1 (subst (λ (cs : List Check). AreFresh seed cs team qs) (sym (append_assoc checked (c ∷ []) (checks_of team ps))) later)),
    )

-- ---- a seed's own locations

-- the numbers of a slot's locations
pub own_locations : (slot : ℕ) (hs : List Held) → map (λ (h : Held). h.location) (held_of slot hs) ≡ locations_among slot hs
own_locations slot [] = refl
own_locations slot (h ∷ hs) =
    elim (h.slot == slot) as (λ b. map (λ (x : Held). x.location) (cond b (h ∷ held_of slot hs) (held_of slot hs)) ≡ cond b (h.location ∷ locations_among slot hs) (locations_among slot hs)) [
      | true ↦ ap (λ ls. h.location ∷ ls) (own_locations slot hs)
      | false ↦ own_locations slot hs
    ]

there : (xs hs : List Held) (h : Held) → is_some (held_among (xs ++ h ∷ hs) h.slot h.location) ≡ true
there [] hs h =
    ap (λ (b : Bool). is_some (cond b (Some h) (held_among hs h.slot h.location)))
    ((Decides-and (h.slot == h.slot) (int_eq h.location h.location) (Decides-eqb h.slot h.slot) (Decides-int_eq h.location h.location)).1 (refl, refl))
there (x ∷ xs) hs h =
    elim ((x.slot == h.slot) && int_eq x.location h.location) as (λ b. is_some (cond b (Some x) (held_among (xs ++ h ∷ hs) h.slot h.location)) ≡ true) [ true ↦ refl | false ↦ there xs hs h ]

own_known : (seed : Seed) (xs hs : List Held) (team slot : ℕ) → seed.locations ≡ xs ++ hs → known_checks seed (checks_at team slot (locations_among slot hs)) ≡ checks_at team slot (locations_among slot hs)
own_known seed xs [] team slot e = refl
own_known seed xs (h ∷ hs) team slot e =
    let rest = checks_at team slot (locations_among slot hs) in
    let c : Check = record { team = team; slot = slot; location = h.location } in
    let later : known_checks seed rest ≡ rest = own_known seed (xs ++ h ∷ []) hs team slot (e ∙ sym (append_assoc xs (h ∷ []) hs)) in
    (elim (h.slot == slot) as (λ b. (h.slot == slot) ≡ b → known_checks seed (checks_at team slot (cond b (h.location ∷ locations_among slot hs) (locations_among slot hs))) ≡ checks_at team slot (cond b (h.location ∷ locations_among slot hs) (locations_among slot hs))) [
      | true ↦ (λ test.
          let known : is_some (held_at seed slot h.location) ≡ true = ap₂ (λ (ls : List Held) (s : ℕ). is_some (held_among ls s h.location)) e (sym ((Decides-eqb h.slot slot).0 test)) ∙ there xs hs h in
          ap (λ (b : Bool). cond b (c ∷ known_checks seed rest) (known_checks seed rest)) known ∙ ap (λ cs. c ∷ cs) later)
      | false ↦ (λ test. later)
    ]) refl

held_known : (seed : Seed) (xs hs : List Held) (team slot : ℕ) → seed.locations ≡ xs ++ hs → known_checks seed (held_for seed team slot hs) ≡ held_for seed team slot hs
held_known seed xs [] team slot e = refl
held_known seed xs (h ∷ hs) team slot e =
    let rest = held_for seed team slot hs in
    let c : Check = record { team = team; slot = h.slot; location = h.location } in
    let later : known_checks seed rest ≡ rest = held_known seed (xs ++ h ∷ []) hs team slot (e ∙ sym (append_assoc xs (h ∷ []) hs)) in
    elim (is_owner seed h.receiver slot) as (λ b. known_checks seed (cond b (c ∷ rest) rest) ≡ cond b (c ∷ rest) rest) [
      | true ↦
          let known : is_some (held_at seed h.slot h.location) ≡ true = ap (λ (ls : List Held). is_some (held_among ls h.slot h.location)) e ∙ there xs hs h in
          ap (λ (b : Bool). cond b (c ∷ known_checks seed rest) (known_checks seed rest)) known ∙ ap (λ cs. c ∷ cs) later
      | false ↦ later
    ]

pub released_known : (seed : Seed) (team slot : ℕ) → known_checks seed (checks_at team slot (locations_among slot seed.locations)) ≡ checks_at team slot (locations_among slot seed.locations)
released_known seed team slot = own_known seed [] seed.locations team slot refl

pub collected_known : (seed : Seed) (team slot : ℕ) → known_checks seed (held_for seed team slot seed.locations) ≡ held_for seed team slot seed.locations
collected_known seed team slot = held_known seed [] seed.locations team slot refl

-- ---- the whole

drop-front : {X : Type 0} (xs ys : List X) → drop (length xs) (xs ++ ys) ≡ ys
drop-front [] ys = refl
drop-front (x ∷ xs) ys = drop-front xs ys

drop-map : {X Y : Type 0} (f : X → Y) (n : ℕ) (xs : List X) → map f (drop n xs) ≡ drop n (map f xs)
drop-map f zero xs = refl
drop-map f (suc n) [] = refl
drop-map f (suc n) (x ∷ xs) = drop-map f n xs

-- what was found after the given ones
found_after : (seed : Seed) (checked : List Check) (team : ℕ) (given none first last : List (ℕ × ℤ)) (asked : List Check) → none ≡ [] → AreFresh seed checked team given → known_checks seed asked ≡ asked
    → NotesAll seed checked team (checks_of team given) none first → NotesAll seed checked team asked first last
    → checks_of team last ≡ checks_of team given ++ unseen (checked ++ checks_of team given) asked
found_after seed checked team given none first last asked empty fresh known notes more =
    let at_first : checks_of team first ≡ checks_of team given =
    sym (append-nil (checks_of team first))
    ∙ notes []
    ∙ ap (λ ps. looked seed checked team ps (checks_of team given ++ [])) empty
    ∙ ap₂ (λ cs ds. new_checks seed cs ds) (append-nil checked) (append-nil (checks_of team given))
    ∙ all_new seed checked team given fresh in
    sym (append-nil (checks_of team last))
    ∙ more []
    ∙ ap (looked seed checked team first) (append-nil asked)
    ∙ ap (λ cs. cs ++ new_checks seed (checked ++ cs) asked) at_first
    ∙ ap (λ cs. checks_of team given ++ unseen (checked ++ checks_of team given) cs) known

-- the given ones stand before it
pub given_within : (seed : Seed) (checked : List Check) (team : ℕ) (given none first last : List (ℕ × ℤ)) (asked : List Check) → none ≡ [] → AreFresh seed checked team given → known_checks seed asked ≡ asked
    → NotesAll seed checked team (checks_of team given) none first → NotesAll seed checked team asked first last → length given ≤ length last
given_within seed checked team given none first last asked empty fresh known notes more =
    let e = ap length (found_after seed checked team given none first last asked empty fresh known notes more) in
    let news = unseen (checked ++ checks_of team given) asked in
    omega (arith, sym (length-map last (check_of team)) ∙ e ∙ length-append (checks_of team given) news, length-map given (check_of team))

pub results_after : {E : Type 0} (seed : Seed) (checked : List Check) (team : ℕ) (given none first last : List (ℕ × ℤ)) (asked : List Check) (r : Result (List (ℕ × ℤ)) E) → none ≡ [] → AreFresh seed checked team given → known_checks seed asked ≡ asked
    → NotesAll seed checked team (checks_of team given) none first → NotesAll seed checked team asked first last
    → IfOk r (λ ps. ps ≡ drop (length given) last) → IfOk r (λ ps. checks_of team ps ≡ unseen (checked ++ checks_of team given) asked)
results_after seed checked team given none first last asked (Err x) empty fresh known notes more e = tt
results_after seed checked team given none first last asked (Ok ps) empty fresh known notes more e =
    let news = unseen (checked ++ checks_of team given) asked in
    ap (checks_of team) e
    ∙ drop-map (check_of team) (length given) last
    ∙ ap (drop (length given)) (found_after seed checked team given none first last asked empty fresh known notes more)
    ∙ ap (λ n. drop n (checks_of team given ++ news)) (sym (length-map given (check_of team)))
    ∙ drop-front (checks_of team given) news

pub results_after_fresh : {E : Type 0} (seed : Seed) (checked : List Check) (team : ℕ) (asked : List Check) (r : Result (List (ℕ × ℤ)) E) → known_checks seed asked ≡ asked
    → IfOk r (λ ps. checks_of team ps ≡ unseen checked asked) → IfOk r (λ ps. AreFresh seed checked team ps)
results_after_fresh seed checked team asked (Err x) known e = tt
results_after_fresh seed checked team asked (Ok ps) known e = are_fresh seed asked checked team ps (e ∙ ap (unseen checked) (sym known))
