-- The locations of a text's lines, one after another.
use Rattle.std.proofs.Common.{◌≡◌, ◌<◌, ◌++◌, ◌∙◌, ℕ, ℤ, List, [], ◌∷◌, Option, Some, None, length, refl, ap, sym, append_assoc, append-nil, arith}
use Rattle.std.specs.Option.{option_and_then, option_map}
use Rattle.std.specs.List.{before_first, after_first}
use Rattle.mw_script.specs.Lines.{is_end, lines_of}
use Rattle.mw_script.proofs.Walks.{lines_step}
use Rattle.mw_play.specs.Ids.{id_in, ids_in, ids_of}

-- locations in front of others
abbrev pub in_front : List ℤ → Option (List ℤ) → Option (List ℤ)
in_front ids None = None
in_front ids (Some others) = Some (ids ++ others)

joins : (ids : List ℤ) (id : ℤ) (others : Option (List ℤ)) → in_front (ids ++ id ∷ []) others ≡ in_front ids (option_map (λ (l : List ℤ). id ∷ l) others)
joins ids id None = refl
joins ids id (Some others) = ap (λ (l : List ℤ). Some l) (append_assoc ids (id ∷ []) others)

by_line : (bs line rest : List ℕ) → 0 < length bs → line ≡ before_first is_end bs → rest ≡ after_first is_end bs → ids_in bs ≡ ids_of (line ∷ lines_of rest)
by_line bs line rest some is after =
    ap ids_of (lines_step bs some) ∙ ap (λ (l : List ℕ). ids_of (l ∷ lines_of (after_first is_end bs))) (sym is) ∙ ap (λ (r : List ℕ). ids_of (line ∷ lines_of r)) (sym after)

abbrev with_id : Option ℤ → List ℕ → Option (List ℤ)
with_id found rest = option_and_then (λ (id : ℤ). option_map (λ (ids : List ℤ). id ∷ ids) (ids_in rest)) found

pub line_names : (ids : List ℤ) (id : ℤ) (bs line rest : List ℕ) → 0 < length bs → line ≡ before_first is_end bs → rest ≡ after_first is_end bs → id_in line ≡ Some id → in_front (ids ++ id ∷ []) (ids_in rest) ≡ in_front ids (ids_in bs)
line_names ids id bs line rest some is after names =
    joins ids id (ids_in rest) ∙ ap (in_front ids) (sym (by_line bs line rest some is after ∙ ap (λ (o : Option ℤ). with_id o rest) names))

pub line_names_none : (ids : List ℤ) (bs line rest : List ℕ) → 0 < length bs → line ≡ before_first is_end bs → rest ≡ after_first is_end bs → id_in line ≡ None → in_front ids (ids_in bs) ≡ None
line_names_none ids bs line rest some is after names =
    ap (in_front ids) (by_line bs line rest some is after ∙ ap (λ (o : Option ℤ). with_id o rest) names)

pub none_left : (ids : List ℤ) (bs : List ℕ) → length bs ≡ 0 → in_front ids (ids_in bs) ≡ Some ids
none_left ids [] none = ap (λ (l : List ℤ). Some l) (append-nil ids)
none_left ids (b ∷ bs) none = absurd (omega (arith, none))
