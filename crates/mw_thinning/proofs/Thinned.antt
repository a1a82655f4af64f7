-- What counts of a journal comes to the same.
use Rattle.std.proofs.Common.{◌≡◌, ℕ, List, Bool, true, false, ◌||◌, cond, ◌∷◌, [], ◌++◌, Some, refl, sym, ap, ap₂, ◌∙◌, bytes_eq, true≢false}
use Rattle.std.proofs.lemmas.Bool.{cond_both, cond-false}
use Rattle.std.proofs.lemmas.Slice.Eq.{bytes_eq-Decides}
use Rattle.mw_model.specs.Json.{Json}
use Rattle.mw_model.specs.Seed.{Seed}
use Rattle.mw_protocol.specs.Asked.{asked, asked_by, checked}
use Rattle.mw_protocol.specs.Checks.{distinct, received_in, unseen}
use Rattle.mw_protocol.specs.HintList.{hinted, hinted_all, hints}
use Rattle.mw_protocol.specs.Records.{Record, Hint, checks, release, collect, status, hint, hint_status, store}
use Rattle.mw_protocol.specs.Standing.{Standing, step, steps, start, points}
use Rattle.mw_protocol.specs.Statuses.{SlotStatus, stated, stated_all, statuses}
use Rattle.mw_protocol.specs.Storage.{Kept, value_of, put, stored, stored_all, storage}
use Rattle.mw_laws.proofs.Journal.{checked-append, standing_checked}
use Rattle.mw_thinning.specs.Same.{Same, ThinnedIsTheSame}
use Rattle.mw_thinning.specs.Thinning.{is_stored, is_outdone, thinned}
use Rattle.mw_thinning.proofs.Kept.{AlikeKept, put_value, all_alike}

-- what holds of the records whether or not the first one counts
module _ (P : List Record → Type 0) where
  pub thinned_first : (r : Record) (rs : List Record) → (is_outdone r rs ≡ true → P (thinned rs)) → (is_outdone r rs ≡ false → P (r ∷ thinned rs)) → P (thinned (r ∷ rs))
  thinned_first r rs gone stays = cond_both (is_outdone r rs) (thinned rs) (r ∷ thinned rs) P gone stays

-- ---- what stores leave as it is

thinned_asked : (seed : Seed) (rs : List Record) → asked seed (thinned rs) ≡ asked seed rs
thinned_asked seed [] = refl
thinned_asked seed (r ∷ rs) = thinned_first (λ kept. asked seed kept ≡ asked_by seed r ++ asked seed rs) r rs (λ out. thinned_asked seed rs ∙ ap (λ cs. cs ++ asked seed rs) (sym (asks_none r out))) (λ _. ap (λ cs. asked_by seed r ++ cs) (thinned_asked seed rs))
  where
    asks_none : (r : Record) → is_outdone r rs ≡ true → asked_by seed r ≡ []
    asks_none (store key value) out = refl
    asks_none (checks team slot locations) out = absurd (true≢false (sym out))
    asks_none (release team slot) out = absurd (true≢false (sym out))
    asks_none (collect team slot) out = absurd (true≢false (sym out))
    asks_none (status team slot number) out = refl
    asks_none (hint h) out = refl
    asks_none (hint_status team finder location number) out = refl

thinned_stated : (rs : List Record) (given : List SlotStatus) → stated_all given (thinned rs) ≡ stated_all given rs
thinned_stated [] given = refl
thinned_stated (r ∷ rs) given = thinned_first (λ kept. stated_all given kept ≡ stated_all (stated given r) rs) r rs (λ out. thinned_stated rs given ∙ ap (λ ss. stated_all ss rs) (sym (states_none r out))) (λ _. thinned_stated rs (stated given r))
  where
    states_none : (r : Record) → is_outdone r rs ≡ true → stated given r ≡ given
    states_none (store key value) out = refl
    states_none (checks team slot locations) out = refl
    states_none (release team slot) out = refl
    states_none (collect team slot) out = refl
    states_none (status team slot number) out = absurd (true≢false (sym out))
    states_none (hint h) out = refl
    states_none (hint_status team finder location number) out = refl

thinned_hinted : (rs : List Record) (made : List Hint) → hinted_all made (thinned rs) ≡ hinted_all made rs
thinned_hinted [] made = refl
thinned_hinted (r ∷ rs) made = thinned_first (λ kept. hinted_all made kept ≡ hinted_all (hinted made r) rs) r rs (λ out. thinned_hinted rs made ∙ ap (λ hs. hinted_all hs rs) (sym (hints_none r out))) (λ _. thinned_hinted rs (hinted made r))
  where
    hints_none : (r : Record) → is_outdone r rs ≡ true → hinted made r ≡ made
    hints_none (store key value) out = refl
    hints_none (checks team slot locations) out = refl
    hints_none (release team slot) out = refl
    hints_none (collect team slot) out = refl
    hints_none (status team slot number) out = refl
    hints_none (hint h) out = absurd (true≢false (sym out))
    hints_none (hint_status team finder location number) out = absurd (true≢false (sym out))

-- ---- values

-- the same values under all other keys
abbrev AlikeBut : List ℕ → List Kept → List Kept → Type 0
AlikeBut at xs ys = (key : List ℕ) → bytes_eq key at ≡ false → value_of key xs ≡ value_of key ys

put_but : (at : List ℕ) (value : Json) (kept : List Kept) → AlikeBut at (put at value kept) kept
put_but at value kept key apart = put_value key at value kept ∙ cond-false (bytes_eq key at) (Some value) (value_of key kept) apart

-- a value under the key itself makes them alike, and one under another leaves them so
but_put : (at other : List ℕ) (value : Json) (xs ys : List Kept) → AlikeBut at xs ys → AlikeBut at (put other value xs) (put other value ys)
but_put at other value xs ys same key apart =
    put_value key other value xs ∙ ap (cond (bytes_eq key other) (Some value)) (same key apart) ∙ sym (put_value key other value ys)

but_here : (at other : List ℕ) (value : Json) (xs ys : List Kept) → bytes_eq at other ≡ true → AlikeBut at xs ys → AlikeKept (put other value xs) (put other value ys)
but_here at other value xs ys is same key =
    put_value key other value xs ∙ by (bytes_eq key other) refl ∙ sym (put_value key other value ys)
  where
    by : (b : Bool) → bytes_eq key other ≡ b → cond b (Some value) (value_of key xs) ≡ cond b (Some value) (value_of key ys)
    by true at_is = refl
    by false apart = same key (ap (bytes_eq key) ((bytes_eq-Decides at other).0 is) ∙ apart)

-- an outdone value leaves no trace
outdone : (at : List ℕ) (rs : List Record) (xs ys : List Kept) → is_stored at rs ≡ true → AlikeBut at xs ys → AlikeKept (stored_all xs rs) (stored_all ys rs)
outdone at [] xs ys later same = absurd (true≢false (sym later))
outdone at (store key value ∷ rs) xs ys later same =
    elim (bytes_eq at key) as (λ b. bytes_eq at key ≡ b → AlikeKept (stored_all (put key value xs) rs) (stored_all (put key value ys) rs)) [
      | true ↦ λ is. all_alike rs (put key value xs) (put key value ys) (but_here at key value xs ys is same)
      | false ↦ λ apart. outdone at rs (put key value xs) (put key value ys) (ap (λ b. b || is_stored at rs) (sym apart) ∙ later) (but_put at key value xs ys same)
    ] refl
outdone at (checks team slot locations ∷ rs) xs ys later same = outdone at rs xs ys later same
outdone at (release team slot ∷ rs) xs ys later same = outdone at rs xs ys later same
outdone at (collect team slot ∷ rs) xs ys later same = outdone at rs xs ys later same
outdone at (status team slot number ∷ rs) xs ys later same = outdone at rs xs ys later same
outdone at (hint h ∷ rs) xs ys later same = outdone at rs xs ys later same
outdone at (hint_status team finder location number ∷ rs) xs ys later same = outdone at rs xs ys later same

outdone_first : (r : Record) (rs : List Record) (kept : List Kept) → is_outdone r rs ≡ true → AlikeKept (stored_all (stored kept r) rs) (stored_all kept rs)
outdone_first (store at value) rs kept out = outdone at rs (put at value kept) kept out (put_but at value kept)
outdone_first (checks team slot locations) rs kept out = absurd (true≢false (sym out))
outdone_first (release team slot) rs kept out = absurd (true≢false (sym out))
outdone_first (collect team slot) rs kept out = absurd (true≢false (sym out))
outdone_first (status team slot number) rs kept out = absurd (true≢false (sym out))
outdone_first (hint h) rs kept out = absurd (true≢false (sym out))
outdone_first (hint_status team finder location number) rs kept out = absurd (true≢false (sym out))

thinned_stored : (rs : List Record) (kept : List Kept) → AlikeKept (stored_all kept rs) (stored_all kept (thinned rs))
thinned_stored [] kept key = refl
thinned_stored (r ∷ rs) kept key =
    thinned_first (λ left. value_of key (stored_all (stored kept r) rs) ≡ value_of key (stored_all kept left)) r rs
    (λ out. outdone_first r rs kept out key ∙ thinned_stored rs kept key) (λ _. thinned_stored rs (stored kept r) key)

-- ---- standings

-- what a journal comes to, part by part
pub standing_hints : (seed : Seed) (s : Standing) (rs : List Record) → (steps seed s rs).hints ≡ hinted_all s.hints rs
standing_hints seed s [] = refl
standing_hints seed s (r ∷ rs) = standing_hints seed (step seed s r) rs

pub standing_statuses : (seed : Seed) (s : Standing) (rs : List Record) → (steps seed s rs).statuses ≡ stated_all s.statuses rs
standing_statuses seed s [] = refl
standing_statuses seed s (r ∷ rs) = standing_statuses seed (step seed s r) rs

pub standing_storage : (seed : Seed) (s : Standing) (rs : List Record) → (steps seed s rs).storage ≡ stored_all s.storage rs
standing_storage seed s [] = refl
standing_storage seed s (r ∷ rs) = standing_storage seed (step seed s r) rs

-- journals of the same checks, values, hints and statuses come to the same
pub same_by : (seed : Seed) (xs ys : List Record) → checked seed xs ≡ checked seed ys → AlikeKept (storage xs) (storage ys) → hints xs ≡ hints ys → statuses xs ≡ statuses ys → Same seed xs ys
same_by seed xs ys same values told given = record {
  checked = same;
  received = λ team slot. ap (received_in seed team slot) same;
  storage = values;
  hints = told;
  points = λ team slot. ap₂ (λ cs hs. points seed (record { checked = cs; statuses = []; hints = hs; storage = [] }) team slot)
      (standing_checked seed xs ∙ same ∙ sym (standing_checked seed ys)) (standing_hints seed start xs ∙ told ∙ sym (standing_hints seed start ys));
  statuses = given;
}

pub thinned_is_the_same : ThinnedIsTheSame
thinned_is_the_same seed journal =
    same_by seed journal (thinned journal) (ap distinct (sym (thinned_asked seed journal))) (thinned_stored journal []) (sym (thinned_hinted journal [])) (sym (thinned_stated journal []))

-- ---- more records

stated_append : (given : List SlotStatus) (xs ys : List Record) → stated_all given (xs ++ ys) ≡ stated_all (stated_all given xs) ys
stated_append given [] ys = refl
stated_append given (x ∷ xs) ys = stated_append (stated given x) xs ys

hinted_append : (made : List Hint) (xs ys : List Record) → hinted_all made (xs ++ ys) ≡ hinted_all (hinted_all made xs) ys
hinted_append made [] ys = refl
hinted_append made (x ∷ xs) ys = hinted_append (hinted made x) xs ys

stored_append : (kept : List Kept) (xs ys : List Record) → stored_all kept (xs ++ ys) ≡ stored_all (stored_all kept xs) ys
stored_append kept [] ys = refl
stored_append kept (x ∷ xs) ys = stored_append (stored kept x) xs ys

-- the same records behind both
pub same_more : (seed : Seed) (xs ys more : List Record) → Same seed xs ys → Same seed (xs ++ more) (ys ++ more)
same_more seed xs ys more same =
    same_by seed (xs ++ more) (ys ++ more)
    (checked-append seed xs more ∙ ap (λ cs. cs ++ unseen cs (asked seed more)) same.checked ∙ sym (checked-append seed ys more))
    (λ key. ap (value_of key) (stored_append [] xs more) ∙ all_alike more (storage xs) (storage ys) same.storage key ∙ ap (value_of key) (sym (stored_append [] ys more)))
    (hinted_append [] xs more ∙ ap (λ hs. hinted_all hs more) same.hints ∙ sym (hinted_append [] ys more))
    (stated_append [] xs more ∙ ap (λ ss. stated_all ss more) same.statuses ∙ sym (stated_append [] ys more))
