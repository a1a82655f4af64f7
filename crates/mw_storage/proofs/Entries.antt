-- A map's entries beside the keys and values that they stand for.
use Rattle.std.proofs.Common.{◌≡◌, Bool, true, false, ℕ, List, [], ◌∷◌, ◌++◌, map, Option, option_map, String, Global, string_bytes, bytes_eq, refl, ap, sym, ◌∙◌, append_assoc, append-nil, subst, cond, Some, None}
use Rattle.std.specs.Option.{option_copied}
use denote.Ref.{Bor}
use Rattle.std.specs.Prelude.{if◌then◌else◌, string_eq}
use Rattle.std.specs.Cmp.{IsEquivalence}
use Rattle.std.specs.List.{IsDistinct, AllByRecursion}
use Rattle.std.specs.Map.{lookup, keys_of}
use Rattle.indexmap.specs.IndexMap.{insert_entry, insert_all}
use Rattle.mw_json.specs.View.{view}
use Rattle.mw_json.specs.declared.tree.Tree.{Tree}
use Rattle.mw_protocol.specs.Storage.{put, value_of}
use Rattle.mw_storage.specs.Stored.{entry_view}

abbrev pub Entries : Type 0
Entries = List (String Global × Tree)

pub value_found : (key : List ℕ) (es : Entries) → option_map view (lookup (λ k. bytes_eq key (string_bytes k)) es) ≡ value_of key (map entry_view es)
value_found key [] = refl
value_found key (e ∷ es) = by (bytes_eq key (string_bytes e.0)) (value_found key es)
  where
    by : (b : Bool) → option_map view (lookup (λ k. bytes_eq key (string_bytes k)) es) ≡ value_of key (map entry_view es)
        → option_map view (cond b (Some e.1) (lookup (λ k. bytes_eq key (string_bytes k)) es)) ≡ (if b then Some (view e.1) else value_of key (map entry_view es))
    by true h = refl
    by false h = h

pub entry_put : (key : String Global) (value : Tree) (es : Entries) → map entry_view (insert_entry string_eq es key value) ≡ put (string_bytes key) (view value) (map entry_view es)
entry_put key value [] = refl
entry_put key value (e ∷ es) = by (bytes_eq (string_bytes key) (string_bytes e.0)) (entry_put key value es)
  where
    by : (b : Bool) → map entry_view (insert_entry string_eq es key value) ≡ put (string_bytes key) (view value) (map entry_view es)
        → map entry_view (if b then (e.0, value) ∷ es else e ∷ insert_entry string_eq es key value)
        ≡ (if b then record { key = string_bytes e.0; value = view value } ∷ map entry_view es else entry_view e ∷ put (string_bytes key) (view value) (map entry_view es))
    by true h = refl
    by false h = ap (λ ks. entry_view e ∷ ks) h

pub copied_view : (found : Option (Bor Tree)) → option_map (λ t. view t.now) found ≡ option_map view (option_copied found)
copied_view None = refl
copied_view (Some t) = refl

module _ {K V : Type 0} (eq : K → K → Bool) (laws : IsEquivalence eq) where
  at_end : (P : K → Type 0) (done : List (K × V)) (e : K × V) (es : List (K × V)) → AllByRecursion P (keys_of (done ++ e ∷ es)) → P e.0
  at_end P [] e es h = h.0
  at_end P (d ∷ done) e es h = at_end P done e es h.1

  goes_last : (done : List (K × V)) (e : K × V) (es : List (K × V)) → IsDistinct eq (keys_of (done ++ e ∷ es)) → insert_entry eq done e.0 e.1 ≡ done ++ e ∷ []
  unfolding IsDistinct
  goes_last [] e es h = refl
  goes_last (d ∷ done) e es h =
      rw (laws.symm e.0 d.0 ∙ at_end (λ y. eq d.0 y ≡ false) done e es h.0) (ap (λ l. d ∷ l) (goes_last done e es h.1))

  pub all_in_turn : (done es : List (K × V)) → IsDistinct eq (keys_of (done ++ es)) → insert_all eq done es ≡ done ++ es
  all_in_turn done [] h = sym (append-nil done)
  all_in_turn done (e ∷ es) h =
      ap (λ l. insert_all eq l es) (goes_last done e es h)
      ∙ all_in_turn (done ++ e ∷ []) es (subst (λ l. IsDistinct eq (keys_of l)) (sym (append_assoc done (e ∷ []) es)) h)
      ∙ append_assoc done (e ∷ []) es
