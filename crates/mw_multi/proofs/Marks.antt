-- The flags of listed labels, as one more name is listed.
use Rattle.std.proofs.Common.{◌≡◌, ℕ, suc, zero, ◌+◌, ◌<◌, ◌≤◌, List, [], ◌∷◌, ◌++◌, length, set, Bool, true, false, ◌||◌, refl, arith, ap, ◌∙◌, sym, cond, ◌⊎◌, inl, inr, take, get_or, add-one}
use Rattle.std.proofs.Math.Seq.{take-suc}
use Rattle.std.specs.Prelude.{Option, Some, None, bytes_eq, replicate, slice_set, filter_map}
use Rattle.std.specs.Bool.{Decides}
use Rattle.std.specs.List.{position_from, IsDistinct, AllByRecursion}
use Rattle.std.proofs.lemmas.Bool.Decides.{same_from_decides}
use Rattle.std.proofs.lemmas.List.Folds.{list_any-append}
use Rattle.std.proofs.lemmas.Slice.Eq.{bytes_eq-Decides}
use Rattle.mw_multi.specs.Files.{is_among}
use Rattle.mw_multi.specs.Labels.{LabelsDiffer, is_called, index_of, flags_of}

-- ---- the index of a name

-- the first element is the one, or a later one is
head_or_later : (b : Bool) (n k : ℕ) (later : Option ℕ) → cond b (Some n) later ≡ Some k → ((b ≡ true) × (n ≡ k)) ⊎ ((b ≡ false) × (later ≡ Some k))
head_or_later true n k later e = inl (refl, cc)
head_or_later false n k later e = inr (refl, e)

pub position_within : {X : Type 0} (p : X → Bool) (n k : ℕ) (xs : List X) → position_from p n xs ≡ Some k → (n ≤ k) × (k < n + length xs)
position_within p n k [] e = cc
position_within p n k (x ∷ xs) e = elim (head_or_later (p x) n k (position_from p (n + 1) xs) e) [
  | inl here ↦ (omega (arith, here.1), omega (arith, here.1))
  | inr there ↦ let later = position_within p (n + 1) k xs there.1 in (omega (arith, later.0), omega (arith, later.1))
]

pub index_within : (labels : List (Option (List ℕ))) (name : List ℕ) (k : ℕ) → index_of labels name ≡ Some k → k < length labels
index_within labels name k found = let bounds = position_within (is_called name) 0 k labels found in omega (arith, bounds.1)

-- ---- names

pub same_name : (a b : List ℕ) → bytes_eq a b ≡ true → a ≡ b
same_name a b e = (bytes_eq-Decides a b).0 e

turned : (a b : List ℕ) → Decides (bytes_eq b a) (a ≡ b)
turned a b = ((λ t. sym (same_name b a t)), (λ e. (bytes_eq-Decides b a).1 (sym e)))

pub bytes_sym : (a b : List ℕ) → bytes_eq a b ≡ bytes_eq b a
bytes_sym a b = same_from_decides (bytes_eq a b) (bytes_eq b a) (bytes_eq-Decides a b) (turned a b)

or_false : (b : Bool) → (b || false) ≡ b
or_false true = refl
or_false false = refl

or_true : (b : Bool) → (b || true) ≡ true
or_true true = refl
or_true false = refl

pub among_push : (names : List (List ℕ)) (name other : List ℕ) → is_among (names ++ name ∷ []) other ≡ (is_among names other || bytes_eq other name)
among_push names name other = list_any-append (bytes_eq other) names (name ∷ []) ∙ ap (λ b. is_among names other || b) (or_false (bytes_eq other name))

-- ---- flags

-- no name is listed
pub none_listed : (labels : List (Option (List ℕ))) → replicate (length labels) false ≡ flags_of labels []
none_listed [] = refl
none_listed (Some l ∷ labels) = ap (λ flags. false ∷ flags) (none_listed labels)
none_listed (None ∷ labels) = ap (λ flags. false ∷ flags) (none_listed labels)

-- another name changes nothing for labels that differ from it
not_this : (names : List (List ℕ)) (name label : List ℕ) → bytes_eq name label ≡ false → is_among names label ≡ is_among (names ++ name ∷ []) label
not_this names name label differs =
    sym (among_push names name label ∙ ap (λ b. is_among names label || b) (bytes_sym label name ∙ differs) ∙ or_false (is_among names label))

this_one : (names : List (List ℕ)) (name label : List ℕ) → bytes_eq name label ≡ true → true ≡ is_among (names ++ name ∷ []) label
this_one names name label same =
    sym (among_push names name label ∙ ap (λ b. is_among names label || b) (bytes_sym label name ∙ same) ∙ or_true (is_among names label))

pair_up : (a b : Bool) (cs ds : List Bool) → a ≡ b → cs ≡ ds → a ∷ cs ≡ b ∷ ds
pair_up a b cs ds e f = cc

others_stay : (labels : List (Option (List ℕ))) (names : List (List ℕ)) (name label : List ℕ) → bytes_eq name label ≡ true
    → AllByRecursion (λ y. bytes_eq label y ≡ false) (filter_map (λ l. l) labels) → flags_of labels names ≡ flags_of labels (names ++ name ∷ [])
others_stay [] names name label same differ = refl
others_stay (None ∷ labels) names name label same differ = ap (λ flags. false ∷ flags) (others_stay labels names name label same differ)
others_stay (Some l ∷ labels) names name label same differ =
    pair_up _ _ _ _ (not_this names name l (ap (λ n. bytes_eq n l) (same_name name label same) ∙ differ.0)) (others_stay labels names name label same differ.1)

listed_from : (labels : List (Option (List ℕ))) (names : List (List ℕ)) (name : List ℕ) (n j : ℕ)
    → LabelsDiffer labels → position_from (is_called name) n labels ≡ Some (n + j) → set (flags_of labels names) j true ≡ flags_of labels (names ++ name ∷ [])
unfolding IsDistinct
listed_from [] names name n j differ found = cc
listed_from (None ∷ labels) names name n zero differ found =
    let bounds = position_within (is_called name) (n + 1) (n + 0) labels found in absurd (omega (arith, bounds.0))
listed_from (None ∷ labels) names name n (suc j) differ found =
    ap (λ flags. false ∷ flags) (listed_from labels names name (n + 1) j differ (found ∙ ap Some (omega arith)))
listed_from (Some l ∷ labels) names name n zero differ found = elim (head_or_later (bytes_eq name l) n (n + 0) (position_from (is_called name) (n + 1) labels) found) [
  | inl here ↦ pair_up _ _ _ _ (this_one names name l here.0) (others_stay labels names name l here.0 differ.0)
  | inr there ↦ let bounds = position_within (is_called name) (n + 1) (n + 0) labels there.1 in absurd (omega (arith, bounds.0))
]
listed_from (Some l ∷ labels) names name n (suc j) differ found = elim (head_or_later (bytes_eq name l) n (n + suc j) (position_from (is_called name) (n + 1) labels) found) [
  | inl here ↦ absurd (omega (arith, here.1))
  | inr there ↦ pair_up _ _ _ _ (not_this names name l there.0) (listed_from labels names name (n + 1) j differ.1 (there.1 ∙ ap Some (omega arith)))
]

pub listed_more : (labels : List (Option (List ℕ))) (names : List (List ℕ)) (name : List ℕ) (k : ℕ)
    → LabelsDiffer labels → index_of labels name ≡ Some k → slice_set (flags_of labels names) k true ≡ flags_of labels (names ++ name ∷ [])
listed_more labels names name k differ found = listed_from labels names name 0 k differ (found ∙ ap Some (omega arith))

-- a name that no label has
not_first : (b : Bool) (n : ℕ) (later : Option ℕ) → cond b (Some n) later ≡ None → (b ≡ false) × (later ≡ None)
not_first true n later e = cc
not_first false n later e = (refl, e)

unlisted_from : (labels : List (Option (List ℕ))) (names : List (List ℕ)) (name : List ℕ) (n : ℕ)
    → position_from (is_called name) n labels ≡ None → flags_of labels names ≡ flags_of labels (names ++ name ∷ [])
unlisted_from [] names name n missing = refl
unlisted_from (None ∷ labels) names name n missing = ap (λ flags. false ∷ flags) (unlisted_from labels names name (n + 1) missing)
unlisted_from (Some l ∷ labels) names name n missing =
    let parts = not_first (bytes_eq name l) n (position_from (is_called name) (n + 1) labels) missing in
    pair_up _ _ _ _ (not_this names name l parts.0) (unlisted_from labels names name (n + 1) parts.1)

-- ---- one name more of a list

pub listed_next : (labels : List (Option (List ℕ))) (names : List (List ℕ)) (i k : ℕ) (d : List ℕ) → i < length names → LabelsDiffer labels
    → index_of labels (get_or names i d) ≡ Some k → set (flags_of labels (take i names)) k true ≡ flags_of labels (take (i + 1) names)
listed_next labels names i k d h differ found = rw (add-one, take-suc names i d h) (listed_more labels (take i names) (get_or names i d) k differ found)

pub unlisted_next : (labels : List (Option (List ℕ))) (names : List (List ℕ)) (i : ℕ) (d : List ℕ) → i < length names
    → index_of labels (get_or names i d) ≡ None → flags_of labels (take i names) ≡ flags_of labels (take (i + 1) names)
unlisted_next labels names i d h missing = rw (add-one, take-suc names i d h) (unlisted_from labels (take i names) (get_or names i d) 0 missing)

pub flags_length : (labels : List (Option (List ℕ))) (names : List (List ℕ)) → length (flags_of labels names) ≡ length labels
flags_length [] names = refl
flags_length (Some l ∷ labels) names = ap suc (flags_length labels names)
flags_length (None ∷ labels) names = ap suc (flags_length labels names)
