-- Lists of trees beside the plain lists that they stand for.
use Rattle.std.proofs.Common.{◌≡◌, ◌≤◌, ℕ, ℤ, pos, zero, suc, List, [], ◌∷◌, ◌++◌, length, is_some, false, refl, ap, sym, ◌∙◌, arith}
use Rattle.std.specs.Prelude.{remove}
use Rattle.mw_model.specs.Json.{Items, no_items, item}
use Rattle.mw_json.specs.View.{view, items_view}
use Rattle.mw_json.specs.declared.tree.Tree.{Tree}
use Rattle.mw_protocol.specs.Operations.{append_items, without_at, without_index, place_from, lacking}

pub append_view : (ts us : List Tree) → items_view (ts ++ us) ≡ append_items (items_view ts) (items_view us)
append_view [] us = refl
append_view (t ∷ ts) us = ap (item (view t)) (append_view ts us)

-- one element more is the first of what comes behind
pub append_one : (ts : List Tree) (t : Tree) (js : Items) → append_items (items_view (ts ++ t ∷ [])) js ≡ append_items (items_view ts) (item (view t) js)
append_one [] t js = refl
append_one (u ∷ ts) t js = ap (item (view u)) (append_one ts t js)

pub append_none : (js : Items) → append_items js no_items ≡ js
append_none no_items = refl
append_none (item j js) = ap (item j) (append_none js)

pub remove_view : (ts : List Tree) (i : ℕ) → items_view (remove ts i) ≡ without_at i (items_view ts)
remove_view [] zero = refl
remove_view [] (suc i) = refl
remove_view (t ∷ ts) zero = refl
remove_view (t ∷ ts) (suc i) = ap (item (view t)) (remove_view ts i)

-- past the end there is nothing to take away
pub none_at : (ts : List Tree) (i : ℕ) → length ts ≤ i → without_at i (items_view ts) ≡ items_view ts
none_at [] i h = refl
none_at (t ∷ ts) zero h = absurd (omega arith)
none_at (t ∷ ts) (suc i) h = ap (item (view t)) (none_at ts i (omega arith))

pub past_end : (ts : List Tree) (z : ℤ) (i : ℕ) → z ≡ pos i → length ts ≤ i → items_view ts ≡ without_index z (items_view ts)
past_end ts z i e h = sym (ap (λ y. without_index y (items_view ts)) e ∙ none_at ts i h)

-- an element that a list lacks, put behind those that were found
pub found_one : (js : Items) (found : List Tree) (x copied : Tree) (rest : Items) → is_some (place_from 0 (view x) js) ≡ false → view copied ≡ view x
    → append_items (items_view (found ++ copied ∷ [])) (lacking js rest) ≡ append_items (items_view found) (lacking js (item (view x) rest))
found_one js found x copied rest h e = append_one found copied (lacking js rest) ∙ rw (e, h) refl
