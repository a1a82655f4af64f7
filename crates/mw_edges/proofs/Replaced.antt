-- Entries, one of which is put.
use Rattle.std.proofs.Common.{◌≡◌, ◌<◌, ◌≤◌, ◌≢◌, ℕ, List, [], ◌∷◌, ◌++◌, Bool, true, false, None, Some, length, set, get_or, arith, refl, sym, ap, subst, ◌∙◌}
use Rattle.std.specs.Prelude.{bytes_eq, unwrap_or}
use Rattle.std.proofs.lemmas.Grind.{common_steps}
use Rattle.std.proofs.lemmas.Slice.Eq.{bytes_eq-Decides}
use Rattle.mw_edges.specs.Files.{entry_of, with_entry, HasPut}
use Rattle.mw_edges.specs.Places.{place_in}

abbrev Entries : Type 0 → Type 0
Entries T = List (List ℕ × T)

pub set_there : {T : Type 0} (entries : Entries T) (name : List ℕ) (value : T) → place_in entries name < length entries → set entries (place_in entries name) (name, value) ≡ with_entry entries name value
set_there [] name value h = absurd (omega arith)
set_there (entry ∷ entries) name value h = grind (arith, common_steps, set_there entries name value)

pub pushed : {T : Type 0} (entries : Entries T) (name : List ℕ) (value : T) → length entries ≤ place_in entries name → entries ++ (name, value) ∷ [] ≡ with_entry entries name value
pushed [] name value h = refl
pushed (entry ∷ entries) name value h = grind (arith, common_steps, pushed entries name value)

off : (b : Bool) → ¬ (b ≡ true) → b ≡ false
off true h = absurd (h refl)
off false h = refl

pub differ : (a b : List ℕ) → a ≢ b → bytes_eq a b ≡ false
differ a b h = off (bytes_eq a b) (λ e. h ((bytes_eq-Decides a b).0 e))

pub entry_there : {T : Type 0} (entries : Entries T) (name : List ℕ) (value : T) → entry_of (with_entry entries name value) name ≡ Some value
entry_there [] name value = rw ((bytes_eq-Decides name name).1 refl) refl
entry_there (entry ∷ entries) name value =
    let itself : bytes_eq name name ≡ true = (bytes_eq-Decides name name).1 refl in
    grind (arith, common_steps, itself, entry_there entries name value)

pub others_there : {T : Type 0} (entries : Entries T) (name : List ℕ) (value : T) (n : List ℕ) → n ≢ name → entry_of (with_entry entries name value) n ≡ entry_of entries n
others_there [] name value n h = rw (differ name n (λ e. h (sym e))) refl
others_there (entry ∷ entries) name value n h =
    let other : bytes_eq name n ≡ false = differ name n (λ e. h (sym e)) in
    let first : bytes_eq entry.0 name ≡ true → bytes_eq entry.0 n ≡ false = λ e. rw ((bytes_eq-Decides entry.0 name).0 e) other in
    grind (arith, common_steps, other, first, others_there entries name value n h)

-- where no entry has the name
pub absent : {T : Type 0} (entries : Entries T) (name : List ℕ) → length entries ≤ place_in entries name → entry_of entries name ≡ None
absent [] name h = refl
absent (entry ∷ entries) name h = grind (arith, common_steps, absent entries name)

-- what stands at the place of a name has the name
named : {T : Type 0} (entries : Entries T) (name : List ℕ) (e : List ℕ × T) → place_in entries name < length entries → e ≡ get_or entries (place_in entries name) e → e.0 ≡ name
named [] name e h is = absurd (omega arith)
named (entry ∷ entries) name e h is =
    let same : bytes_eq entry.0 name ≡ true → entry.0 ≡ name = (bytes_eq-Decides entry.0 name).0 in
    grind (arith, common_steps, same, named entries name e)

pub placed : {T : Type 0} (entries : Entries T) (name : List ℕ) (e : List ℕ × T) → place_in entries name < length entries → e ≡ get_or entries (place_in entries name) e → entry_of entries name ≡ Some e.1
placed [] name e h is = absurd (omega arith)
placed (entry ∷ entries) name e h is = grind (arith, common_steps, placed entries name e)

pub put : {T : Type 0} (entries : Entries T) (name : List ℕ) (value : T) → HasPut entries (with_entry entries name value) name (Some value)
put entries name value = record { there = entry_there entries name value; others = others_there entries name value }

-- another value at the place of a name
pub changed : {T : Type 0} (entries : Entries T) (name : List ℕ) (e : List ℕ × T) (value : T) (at : ℕ) → at ≡ place_in entries name → at < length entries → e ≡ get_or entries at e → HasPut entries (set entries at (e.0, value)) name (Some value)
changed {T = T} entries name e value at here within is =
    let inside : place_in entries name < length entries = subst (λ (k : ℕ). k < length entries) here within in
    let stands : e ≡ get_or entries (place_in entries name) e = is ∙ ap (λ (k : ℕ). get_or entries k e) here in
    let new : set entries at (e.0, value) ≡ with_entry entries name value =
    (λ i. set entries (here i) (named entries name e inside stands i, value)) ∙ set_there entries name value inside in
    let P : Entries T → Type 0 = λ l. HasPut entries l name (Some value) in
    subst P (sym new) (put entries name value)

-- the place of a mark is one of them
pub marked_within : (marks : Entries Bool) (name : List ℕ) → unwrap_or (entry_of marks name) false ≡ true → place_in marks name < length marks
marked_within [] name h = absurd cc
marked_within (mark ∷ marks) name h = grind (arith, common_steps, marked_within marks name)
