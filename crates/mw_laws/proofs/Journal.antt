-- A journal that grows: what its checks come to.
use Rattle.std.proofs.Common.{◌≡◌, ℕ, List, [], ◌∷◌, ◌++◌, ◌||◌, ◌&&◌, ◌==◌, true, false, length, drop, filter, refl, sym, ap, ◌∙◌, append_assoc, append-nil, cond}
use Rattle.std.proofs.Math.Seq.{drop-append_seam}
use Rattle.std.proofs.lemmas.List.Elements.{filter-append}
use Rattle.mw_model.specs.Seed.{Seed, slot_of, held_at}
use Rattle.mw_protocol.specs.Records.{Record}
use Rattle.mw_protocol.specs.Checks.{Check, same_check, has_check, unseen, distinct, items_found, item_for, keeps, start_items, locations_in}
use Rattle.mw_protocol.specs.Asked.{asked_by, asked, checked, received, view}
use Rattle.mw_protocol.specs.Standing.{Standing, step, steps, start, standing}

pub asked-append : (seed : Seed) (xs ys : List Record) → asked seed (xs ++ ys) ≡ asked seed xs ++ asked seed ys
asked-append seed [] ys = refl
asked-append seed (r ∷ rs) ys = ap (λ cs. asked_by seed r ++ cs) (asked-append seed rs ys) ∙ sym (append_assoc (asked_by seed r) (asked seed rs) (asked seed ys))

-- what is unseen in a list and then in another
pub unseen-append : (seen xs ys : List Check) → unseen seen (xs ++ ys) ≡ unseen seen xs ++ unseen (seen ++ unseen seen xs) ys
unseen-append seen [] ys = ap (λ s. unseen s ys) (sym (append-nil seen))
unseen-append seen (c ∷ xs) ys =
    elim (has_check seen c) as (λ b. cond b (unseen seen (xs ++ ys)) (c ∷ unseen (seen ++ c ∷ []) (xs ++ ys))
    ≡ cond b (unseen seen xs) (c ∷ unseen (seen ++ c ∷ []) xs) ++ unseen (seen ++ cond b (unseen seen xs) (c ∷ unseen (seen ++ c ∷ []) xs)) ys) [
      | true ↦ unseen-append seen xs ys
      | false ↦
          ap (λ cs. c ∷ cs) (unseen-append (seen ++ c ∷ []) xs ys ∙ ap (λ s. unseen (seen ++ c ∷ []) xs ++ unseen s ys) (append_assoc seen (c ∷ []) (unseen (seen ++ c ∷ []) xs)))
    ]

pub checked-append : (seed : Seed) (journal more : List Record) → checked seed (journal ++ more) ≡ checked seed journal ++ unseen (checked seed journal) (asked seed more)
checked-append seed journal more = ap distinct (asked-append seed journal more) ∙ unseen-append [] (asked seed journal) (asked seed more)

pub items_found-append : (seed : Seed) (team slot : ℕ) (xs ys : List Check) → items_found seed team slot (xs ++ ys) ≡ items_found seed team slot xs ++ items_found seed team slot ys
items_found-append seed team slot [] ys = refl
items_found-append seed team slot (c ∷ xs) ys =
    let first = item_for seed team slot c (held_at seed c.slot c.location) in
    ap (λ is. first ++ is) (items_found-append seed team slot xs ys) ∙ sym (append_assoc first (items_found seed team slot xs) (items_found seed team slot ys))

pub locations_in-append : (team slot : ℕ) (xs ys : List Check) → locations_in team slot (xs ++ ys) ≡ locations_in team slot xs ++ locations_in team slot ys
locations_in-append team slot [] ys = refl
locations_in-append team slot (c ∷ xs) ys =
    elim ((c.team == team) && (c.slot == slot)) as (λ b. cond b (c.location ∷ locations_in team slot (xs ++ ys)) (locations_in team slot (xs ++ ys))
    ≡ cond b (c.location ∷ locations_in team slot xs) (locations_in team slot xs) ++ locations_in team slot ys) [
      | true ↦ ap (λ zs. c.location ∷ zs) (locations_in-append team slot xs ys)
      | false ↦ locations_in-append team slot xs ys
    ]

-- the new checks of more records
abbrev pub fresh : Seed → List Record → List Record → List Check
fresh seed journal more = unseen (checked seed journal) (asked seed more)

pub view-append : (seed : Seed) (mask team slot : ℕ) (journal more : List Record)
    → view seed mask team slot (journal ++ more) ≡ view seed mask team slot journal ++ filter (keeps mask slot) (items_found seed team slot (fresh seed journal more))
view-append seed mask team slot journal more =
    let start = start_items (slot_of seed slot) in
    ap (λ cs. filter (keeps mask slot) (start ++ items_found seed team slot cs)) (checked-append seed journal more)
    ∙ ap (λ is. filter (keeps mask slot) (start ++ is)) (items_found-append seed team slot (checked seed journal) (fresh seed journal more))
    ∙ ap (filter (keeps mask slot)) (sym (append_assoc start (items_found seed team slot (checked seed journal)) (items_found seed team slot (fresh seed journal more))))
    ∙ filter-append (keeps mask slot) (received seed team slot journal) (items_found seed team slot (fresh seed journal more))

-- the tail of what grew
pub drop-grown : {X : Type 0} (before after more : List X) → after ≡ before ++ more → drop (length before) after ≡ more
drop-grown before after more e = ap (drop (length before)) e ∙ drop-append_seam before more

pub has_check_append : (xs ys : List Check) (c : Check) → has_check (xs ++ ys) c ≡ (has_check xs c || has_check ys c)
has_check_append [] ys c = refl
has_check_append (x ∷ xs) ys c = elim (same_check x c) as (λ b. (b || has_check (xs ++ ys) c) ≡ ((b || has_check xs c) || has_check ys c)) [ true ↦ refl | false ↦ has_check_append xs ys c ]

-- ---- what more records come to

pub steps-append : (seed : Seed) (s : Standing) (xs ys : List Record) → steps seed s (xs ++ ys) ≡ steps seed (steps seed s xs) ys
steps-append seed s [] ys = refl
steps-append seed s (r ∷ rs) ys = steps-append seed (step seed s r) rs ys

pub standing-append : (seed : Seed) (journal more : List Record) → standing seed (journal ++ more) ≡ steps seed (standing seed journal) more
standing-append seed journal more = steps-append seed start journal more

pub steps_checked : (seed : Seed) (s : Standing) (journal : List Record) → (steps seed s journal).checked ≡ s.checked ++ unseen s.checked (asked seed journal)
steps_checked seed s [] = sym (append-nil s.checked)
steps_checked seed s (r ∷ rs) =
    let first = unseen s.checked (asked_by seed r) in
    steps_checked seed (step seed s r) rs
    ∙ append_assoc s.checked first (unseen (s.checked ++ first) (asked seed rs))
    ∙ ap (λ cs. s.checked ++ cs) (sym (unseen-append s.checked (asked_by seed r) (asked seed rs)))

-- the checks of a standing are the journal's distinct checks
pub standing_checked : (seed : Seed) (journal : List Record) → (standing seed journal).checked ≡ checked seed journal
standing_checked seed journal = steps_checked seed start journal
