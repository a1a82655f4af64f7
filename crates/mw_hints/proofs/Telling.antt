-- One hint more that is told.
use Rattle.std.proofs.Common.{◌≡◌, ℕ, ◌+◌, List, [], ◌∷◌, ◌++◌, Some, map, drop, sym, ap, ◌∙◌, append-nil, append_assoc}
use Rattle.std.specs.Prelude.{slice_get}
use Rattle.std.proofs.lemmas.List.{drop_more, drop-map}
use Rattle.std.proofs.lemmas.Option.{slice_get_within, get_or_from_slice_get}
use Rattle.mw_model.specs.Seed.{Seed}
use Rattle.mw_protocol.specs.Checks.{CheckedAt}
use Rattle.mw_protocol.specs.Hints.{ToldHint, told_hints}
use Rattle.mw_protocol.specs.Records.{Hint}
use Rattle.mw_hints.specs.Book.{hint_of}
use Rattle.mw_hints.proofs.Keys.{Key, Entries}
use Rattle.mw_hints.specs.declared.kept.Kept.{Kept}

entry_left : (es : Entries) (i : ℕ) (e : Key × Kept) → slice_get es i ≡ Some e → drop i es ≡ e ∷ drop (i + 1) es
entry_left es i e is = drop_more es i e (slice_get_within es i e is) ∙ ap (λ x. x ∷ drop (i + 1) es) (get_or_from_slice_get es i e e is)

-- what is told with this one, and what is told of those after it
pub told_more : (seed : Seed) (found : CheckedAt) (team slot : ℕ) (hints : List Hint) (es : Entries) (i : ℕ) (e : Key × Kept) (old new all : List ToldHint) → hints ≡ map hint_of es → slice_get es i ≡ Some e
    → new ≡ old ++ told_hints seed found team slot (hint_of e ∷ []) → old ++ told_hints seed found team slot (drop i hints) ≡ all
    → new ++ told_hints seed found team slot (drop (i + 1) hints) ≡ all
told_more seed found team slot hints es i e old new all are is more was =
    let one = told_hints seed found team slot (hint_of e ∷ []) in
    let rest = told_hints seed found team slot (drop (i + 1) hints) in
    let left : drop i hints ≡ hint_of e ∷ drop (i + 1) hints =
    ap (drop i) are ∙ drop-map hint_of i es ∙ ap (map hint_of) (entry_left es i e is)
    ∙ ap (λ hs. hint_of e ∷ hs) (sym (drop-map hint_of (i + 1) es) ∙ ap (drop (i + 1)) (sym are)) in
    let parts : told_hints seed found team slot (hint_of e ∷ drop (i + 1) hints) ≡ one ++ rest = ap (λ xs. xs ++ rest) (sym (append-nil _)) in
    ap (λ xs. xs ++ rest) more
    ∙ append_assoc old one rest
    ∙ ap (λ xs. old ++ xs) (sym parts ∙ ap (told_hints seed found team slot) (sym left))
    ∙ was
