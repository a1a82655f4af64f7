-- What is read of a message stands in its packets.
use Rattle.std.proofs.Common.{◌≡◌, ◌+◌, ℕ, ℤ, zero, suc, pos, List, [], ◌∷◌, Bool, true, false, Option, Some, None, Result, Ok, Err, codes, map, refl, sym, ap, ap₂, subst, ◌∙◌}
use Rattle.std.specs.Prelude.{IfOk, bytes_eq, nat_le, option_and_then, option_map, slice_get, unwrap_or, if◌then◌else◌}
use Rattle.std.specs.Ordering.{nat_cmp, is_lt}
use Rattle.std.specs.Cmp.Lexicographic.{slice_cmp}
use Rattle.std.proofs.lemmas.Result.{IfOk-at_ok, IfOk-weaker}
use Rattle.std.proofs.lemmas.Slice.Eq.{bytes_eq-Decides}
use Rattle.mw_model.specs.Json.{Json, null, flag, whole, not_whole, numeral, words, many, members, Items, no_items, item, Members, no_members, member, depth, find_member, field_of}
use Rattle.mw_model.specs.Sets.{Operation, SetPacket}
use Rattle.mw_model.specs.Texts.{has_text}
use Rattle.mw_model.specs.Trees.{items_of, put_member, text_json, id_json}
use Rattle.mw_protocol.specs.Further.{others}
use Rattle.mw_protocol.specs.Messages.{put_if, texts_json, ids_json, bounced_json}
use Rattle.mw_protocol.specs.Packets.{Bounce, Packet, Bad, bounce, get, change, good, wrong}
use Rattle.mw_json.specs.Grammar.{Breach, ◌>>=◌, under, items_length, text_at, list_at, found_or_missing, member_at, field_at}
use Rattle.mw_json.specs.KeptReading.{kept_reading}
use Rattle.mw_json.specs.Parts.{read_if, field_if_at}
use Rattle.mw_json.specs.Reading.{max_depth}
use Rattle.mw_json.specs.Readers.{each_from, first_at, field_or_at}
use Rattle.mw_json.specs.Sets.{set_names}
use Rattle.mw_json.specs.declared.refusal.Step.TheVariants.{Name, Index}
use Rattle.mw_json.proofs.Passing.{past, after, within}
use Rattle.mw_packets_in.specs.AsRead.{element, element_of, IsSent, BouncesStay, AreOthers, GetsStay, AreOperations, IsAskedBy, SetsStay}
use Rattle.mw_packets_in.specs.Fields.{whole_at, flag_at, any_at, texts_at, wholes_at}
use Rattle.mw_packets_in.specs.Kept.{bounce_names, get_names}
use Rattle.mw_packets_in.specs.PacketsOf.{told, inbound_by, inbound_of, each_inbound, message_of, no_list, max_packets, read_message}
use Rattle.mw_packets_in.specs.Rows.{bounce_at, get_at, operation_at, operations_at, set_at}

-- ---- elements

some_is : {A : Type 0} (x y : A) → Some x ≡ Some y → x ≡ y
some_is x y e = ap (λ o. unwrap_or o x) e

one_bad : (b : Bad) (i : ℕ) (p : Packet) → slice_get (wrong b ∷ []) i ≡ Some (good p) → ⊥
one_bad b zero p e = cc
one_bad b (suc i) p e = cc

module _ (ms : Members) (p : Packet) where
  in_items : (i : ℕ) (js : Items) → element i js ≡ Some (members ms) → slice_get (each_inbound js) i ≡ Some (good p) → inbound_of (members ms) ≡ good p
  in_items i no_items e f = cc
  in_items zero (item j js) e f = ap inbound_of (sym (some_is j (members ms) e)) ∙ some_is (inbound_of j) (good p) f
  in_items (suc i) (item j js) e f = in_items i js e f

  in_list : (i : ℕ) (js : Items) (few : Bool) (b : Bad) → element i js ≡ Some (members ms) → slice_get (if few then each_inbound js else wrong b ∷ []) i ≡ Some (good p) → inbound_of (members ms) ≡ good p
  in_list i js true b e f = in_items i js e f
  in_list i js false b e f = absurd (one_bad b i p f)

  in_message : (i : ℕ) (j : Json) → element_of i j ≡ Some (members ms) → slice_get (message_of j) i ≡ Some (good p) → inbound_of (members ms) ≡ good p
  in_message i (many js) e f = in_list i js (nat_le (items_length js) max_packets) _ e f
  in_message i null e f = cc
  in_message i (flag b) e f = cc
  in_message i (whole z) e f = cc
  in_message i not_whole e f = cc
  in_message i (numeral s) e f = cc
  in_message i (words s) e f = cc
  in_message i (members ns) e f = cc

  in_reading : (i : ℕ) (found : Option Json) → option_and_then (element_of i) found ≡ Some (members ms) → slice_get (read_message found) i ≡ Some (good p) → inbound_of (members ms) ≡ good p
  in_reading i None e f = cc
  in_reading i (Some j) e f = by (nat_le (depth j) max_depth) f
    where
      by : (shallow : Bool) → slice_get (if shallow then message_of j else no_list) i ≡ Some (good p) → inbound_of (members ms) ≡ good p
      by true f = in_message i j e f
      by false f = absurd (one_bad _ i p f)

told_good : (cmd : List ℕ) (read : Result Packet Breach) (p : Packet) → told cmd read ≡ good p → read ≡ Ok p
told_good cmd (Ok q) p e = cc
told_good cmd (Err b) p e = cc

-- what is sent is told by its command
sent_told : (text : List ℕ) (i : ℕ) (cmd : List ℕ) (ms : Members) (p : Packet) → IsSent text i cmd ms p → inbound_by (Some (words cmd)) ms ≡ good p
sent_told text i cmd ms p h = ap (λ found. inbound_by found ms) (sym h.command) ∙ in_reading ms p i (kept_reading text) h.object h.stands

-- ---- members that are put, and those that are left out

same_name : (k name : List ℕ) → bytes_eq k name ≡ true → k ≡ name
same_name k name e = (bytes_eq-Decides k name).0 e

put_other : (k name : List ℕ) (j : Json) (ms : Members) → bytes_eq k name ≡ false → find_member name (put_member k j ms) ≡ find_member name ms
put_other k name j no_members e = rw e refl
put_other k name j (member l i ms) e =
    let rest = put_other k name j ms e in
    elim (is_lt (slice_cmp nat_cmp k l)) as (λ less. find_member name (if less then member k j (member l i ms) else member l i (put_member k j ms)) ≡ find_member name (member l i ms)) [
      | true ↦ rw e refl
      | false ↦ rw rest refl
    ]

no_first : (l name : List ℕ) (i : Json) (ms : Members) → find_member name (member l i ms) ≡ None → (bytes_eq l name ≡ false) × (find_member name ms ≡ None)
no_first l name i ms =
    elim (bytes_eq l name) as (λ same. (if same then Some i else find_member name ms) ≡ None → (same ≡ false) × (find_member name ms ≡ None)) [
      | true ↦ λ e. cc
      | false ↦ λ e. (refl, e)
    ]

put_same : (name : List ℕ) (j : Json) (ms : Members) → find_member name ms ≡ None → find_member name (put_member name j ms) ≡ Some j
put_same name j no_members e = rw ((bytes_eq-Decides name name).1 refl) refl
put_same name j (member l i ms) e =
    let first = no_first l name i ms e in
    let rest = put_same name j ms first.1 in
    elim (is_lt (slice_cmp nat_cmp name l)) as (λ less. find_member name (if less then member name j (member l i ms) else member l i (put_member name j ms)) ≡ Some j) [
      | true ↦ rw ((bytes_eq-Decides name name).1 refl) refl
      | false ↦ rw (first.0, rest) refl
    ]

module _ {A : Type 0} (json : A → Json) where
  put_if_other : (k name : List ℕ) (found : Option A) (ms : Members) → bytes_eq k name ≡ false → find_member name (put_if k json found ms) ≡ find_member name ms
  put_if_other k name None ms e = refl
  put_if_other k name (Some x) ms e = put_other k name (json x) ms e

  put_if_same : (name : List ℕ) (found : Option A) (ms : Members) → find_member name ms ≡ None → find_member name (put_if name json found ms) ≡ option_map json found
  put_if_same name None ms e = e
  put_if_same name (Some x) ms e = put_same name (json x) ms e

kept_apart : (names : List (List ℕ)) (k name : List ℕ) → has_text names k ≡ true → has_text names name ≡ false → bytes_eq k name ≡ false
kept_apart names k name own other = by (bytes_eq k name) refl
  where
    by : (same : Bool) → bytes_eq k name ≡ same → same ≡ false
    by true e = sym own ∙ ap (has_text names) (same_name k name e) ∙ other
    by false e = refl

others_stay : (names : List (List ℕ)) (ms : Members) → AreOthers names ms (others names ms)
others_stay names no_members name other = refl
others_stay names (member k j ms) name other =
    let rest = others_stay names ms name other in
    let P : Bool → Type 0 = λ own. has_text names k ≡ own → find_member name (if own then others names ms else member k j (others names ms)) ≡ find_member name (member k j ms) in
    let at : P (has_text names k) =
    elim (has_text names k) as P [ true ↦ λ own. rw (kept_apart names k name own other) rest | false ↦ λ own. rw rest refl ] in
    at refl

left_out : (names : List (List ℕ)) (ms : Members) (name : List ℕ) → has_text names name ≡ true → find_member name (others names ms) ≡ None
left_out names no_members name own = refl
left_out names (member k j ms) name own =
    let rest = left_out names ms name own in
    let P : Bool → Type 0 = λ is. has_text names k ≡ is → find_member name (if is then others names ms else member k j (others names ms)) ≡ None in
    let at : P (has_text names k) =
    elim (has_text names k) as P [ true ↦ λ is. rest | false ↦ λ is. rw (another k is) rest ] in
    at refl
  where
    another : (k : List ℕ) → has_text names k ≡ false → bytes_eq k name ≡ false
    another k is = by (bytes_eq k name) refl
      where
        by : (same : Bool) → bytes_eq k name ≡ same → same ≡ false
        by true e = sym own ∙ ap (has_text names) (sym (same_name k name e)) ∙ is
        by false e = refl

-- ---- values that are read

text_stands : (j : Json) → IfOk (text_at j) (λ s. j ≡ words s)
text_stands (words s) = refl
text_stands null = tt
text_stands (flag b) = tt
text_stands (whole z) = tt
text_stands not_whole = tt
text_stands (numeral s) = tt
text_stands (many js) = tt
text_stands (members ms) = tt

whole_stands : (j : Json) → IfOk (whole_at j) (λ z. j ≡ whole z)
whole_stands (whole z) = refl
whole_stands null = tt
whole_stands (flag b) = tt
whole_stands not_whole = tt
whole_stands (numeral s) = tt
whole_stands (words s) = tt
whole_stands (many js) = tt
whole_stands (members ms) = tt

module _ {A : Type 0} (read : Json → Result A Breach) (json : A → Json) (h : (j : Json) → IfOk (read j) (λ x. j ≡ json x)) where
  each_stands : (i : ℕ) (js : Items) → IfOk (each_from read i js) (λ xs. js ≡ items_of (map json xs))
  each_stands i no_items = refl
  each_stands i (item j js) =
      let All : List A → Type 0 = λ xs. item j js ≡ items_of (map json xs) in
      after (λ x. j ≡ json x) All (under (Index i) (read j)) _ (within (λ x. j ≡ json x) (Index i) (read j) (h j)) (λ x e.
      after (λ xs. js ≡ items_of (map json xs)) All (each_from read (i + 1) js) _ (each_stands (i + 1) js) (λ xs f. ap₂ item e f))

  list_stands : (j : Json) → IfOk (list_at j >>= each_from read 0) (λ xs. j ≡ many (items_of (map json xs)))
  list_stands (many js) = IfOk-weaker (each_from read 0 js) (λ xs. js ≡ items_of (map json xs)) (λ xs. many js ≡ many (items_of (map json xs))) (λ xs e. ap many e) (each_stands 0 js)
  list_stands null = tt
  list_stands (flag b) = tt
  list_stands (whole z) = tt
  list_stands not_whole = tt
  list_stands (numeral s) = tt
  list_stands (words s) = tt
  list_stands (members ms) = tt

texts_stand : (j : Json) → IfOk (texts_at j) (λ ts. j ≡ texts_json ts)
unfolding texts_at
texts_stand j = list_stands text_at text_json text_stands j

wholes_stand : (j : Json) → IfOk (wholes_at j) (λ zs. j ≡ ids_json zs)
unfolding wholes_at
wholes_stand j = list_stands whole_at id_json whole_stands j

-- ---- members that are read

found_is : (name : List ℕ) (ms : Members) → IfOk (member_at name ms) (λ j. find_member name ms ≡ Some j)
found_is name ms = elim (find_member name ms) as (λ found. IfOk (under (Name name) (found_or_missing found)) (λ j. found ≡ Some j)) [ None ↦ tt | Some j ↦ refl ]

-- what stands under the name is read as this
abbrev IsUnder : {A : Type 0} → (Json → A → Type 0) → List ℕ → Members → A → Type 0
IsUnder R name ms x = (j : Json) × (find_member name ms ≡ Some j) × R j x

module _ {A : Type 0} (R : Json → A → Type 0) (read : Json → Result A Breach) (h : (j : Json) → IfOk (read j) (R j)) where
  field_stands : (name : List ℕ) (ms : Members) → IfOk (field_at name read ms) (IsUnder R name ms)
  unfolding field_at
  field_stands name ms =
      after (λ j. find_member name ms ≡ Some j) (IsUnder R name ms) (member_at name ms) _ (found_is name ms) (λ j e.
      within (IsUnder R name ms) (Name name) (read j) (IfOk-weaker (read j) (R j) (IsUnder R name ms) (λ x r. (j, e, r)) (h j)))

module _ {A : Type 0} (read : Json → Result A Breach) (json : A → Json) (h : (j : Json) → IfOk (read j) (λ x. j ≡ json x)) where
  if_stands : (name : List ℕ) (found : Option Json) → IfOk (read_if (λ j. under (Name name) (read j)) found) (λ x. found ≡ option_map json x)
  if_stands name None = refl
  if_stands name (Some j) =
      after (λ x. j ≡ json x) (λ o. Some j ≡ option_map json o) (under (Name name) (read j)) _ (within (λ x. j ≡ json x) (Name name) (read j) (h j)) (λ x e. ap Some e)

  field_if_stands : (name : List ℕ) (ms : Members) → IfOk (field_if_at name read ms) (λ x. find_member name ms ≡ option_map json x)
  unfolding field_if_at
  field_if_stands name ms = if_stands name (find_member name ms)

-- ---- a Bounce

abbrev IsTold : Members → Bounce → Type 0
IsTold ms b = (name : List ℕ) → bytes_eq (codes "cmd") name ≡ false → field_of name (bounced_json b) ≡ find_member name ms

module _ (ms : Members) (games tags : Option (List (List ℕ))) (slots : Option (List ℤ)) where
  abbrev made : Bounce
  made = record { games = games; tags = tags; slots = slots; further = others bounce_names ms }

  abbrev with_tags : Members
  with_tags = put_if (codes "tags") texts_json tags (others bounce_names ms)

  abbrev with_slots : Members
  with_slots = put_if (codes "slots") ids_json slots with_tags

  abbrev with_games : Members
  with_games = put_if (codes "games") texts_json games with_slots

  told_of : find_member (codes "games") ms ≡ option_map texts_json games → find_member (codes "tags") ms ≡ option_map texts_json tags → find_member (codes "slots") ms ≡ option_map ids_json slots → IsTold ms made
  told_of g t s name other =
      put_other (codes "cmd") name (words (codes "Bounced")) with_games other
      ∙ by (bytes_eq (codes "games") name) (bytes_eq (codes "slots") name) (bytes_eq (codes "tags") name) refl refl refl
    where
      at_games : find_member (codes "games") with_games ≡ find_member (codes "games") ms
      at_games =
          put_if_same texts_json (codes "games") games with_slots (put_if_other ids_json (codes "slots") (codes "games") slots with_tags refl
          ∙ put_if_other texts_json (codes "tags") (codes "games") tags (others bounce_names ms) refl ∙ left_out bounce_names ms (codes "games") refl)
          ∙ sym g

      at_slots : find_member (codes "slots") with_games ≡ find_member (codes "slots") ms
      at_slots =
          put_if_other texts_json (codes "games") (codes "slots") games with_slots refl
          ∙ put_if_same ids_json (codes "slots") slots with_tags (put_if_other texts_json (codes "tags") (codes "slots") tags (others bounce_names ms) refl ∙ left_out bounce_names ms (codes "slots") refl)
          ∙ sym s

      at_tags : find_member (codes "tags") with_games ≡ find_member (codes "tags") ms
      at_tags =
          put_if_other texts_json (codes "games") (codes "tags") games with_slots refl ∙ put_if_other ids_json (codes "slots") (codes "tags") slots with_tags refl
          ∙ put_if_same texts_json (codes "tags") tags (others bounce_names ms) (left_out bounce_names ms (codes "tags") refl) ∙ sym t

      by : (a b c : Bool) → bytes_eq (codes "games") name ≡ a → bytes_eq (codes "slots") name ≡ b → bytes_eq (codes "tags") name ≡ c → find_member name with_games ≡ find_member name ms
      by true b c eg es et = subst (λ n. find_member n with_games ≡ find_member n ms) (same_name (codes "games") name eg) at_games
      by false true c eg es et = subst (λ n. find_member n with_games ≡ find_member n ms) (same_name (codes "slots") name es) at_slots
      by false false true eg es et = subst (λ n. find_member n with_games ≡ find_member n ms) (same_name (codes "tags") name et) at_tags
      by false false false eg es et =
          put_if_other texts_json (codes "games") name games with_slots eg ∙ put_if_other ids_json (codes "slots") name slots with_tags es
          ∙ put_if_other texts_json (codes "tags") name tags (others bounce_names ms) et ∙ others_stay bounce_names ms name (rw (other, eg, et, es) refl)

abbrev IsBounceOf : Members → Packet → Type 0
IsBounceOf ms packet = (b : Bounce) × (packet ≡ bounce b) × IsTold ms b

bounce_stands : (ms : Members) → IfOk (bounce_at ms) (IsBounceOf ms)
unfolding bounce_at
bounce_stands ms =
    after (λ x. find_member (codes "games") ms ≡ option_map texts_json x) (IsBounceOf ms) (field_if_at (codes "games") texts_at ms) _ (field_if_stands texts_at texts_json texts_stand (codes "games") ms) (λ games g.
    after (λ x. find_member (codes "tags") ms ≡ option_map texts_json x) (IsBounceOf ms) (field_if_at (codes "tags") texts_at ms) _ (field_if_stands texts_at texts_json texts_stand (codes "tags") ms) (λ tags t.
    after (λ x. find_member (codes "slots") ms ≡ option_map ids_json x) (IsBounceOf ms) (field_if_at (codes "slots") wholes_at ms) _ (field_if_stands wholes_at ids_json wholes_stand (codes "slots") ms) (λ slots s.
    (made ms games tags slots, refl, told_of ms games tags slots g t s))))

pub bounces_stay : BouncesStay
bounces_stay text i ms p h = IfOk-at_ok (IsBounceOf ms) (told_good (codes "Bounce") (bounce_at ms) p (sent_told text i (codes "Bounce") ms p h)) (bounce_stands ms)

-- ---- a Get

abbrev IsGetOf : Members → Packet → Type 0
IsGetOf ms packet = (keys : List (List ℕ)) × (further : Members) × (packet ≡ get keys further) × (find_member (codes "keys") ms ≡ Some (texts_json keys)) × AreOthers get_names ms further

get_stands : (ms : Members) → IfOk (get_at ms) (IsGetOf ms)
unfolding get_at
get_stands ms =
    let R : Json → List (List ℕ) → Type 0 = λ j ts. j ≡ texts_json ts in
    after (IsUnder R (codes "keys") ms) (IsGetOf ms) (field_at (codes "keys") texts_at ms) _ (field_stands R texts_at texts_stand (codes "keys") ms) (λ keys k.
    (keys, others get_names ms, refl, k.1 ∙ ap Some k.2, others_stay get_names ms))

pub gets_stay : GetsStay
gets_stay text i ms p h = IfOk-at_ok (IsGetOf ms) (told_good (codes "Get") (get_at ms) p (sent_told text i (codes "Get") ms p h)) (get_stands ms)

-- ---- a Set

abbrev IsOperationOf : Json → Operation → Type 0
IsOperationOf j o = (field_of (codes "operation") j ≡ Some (words o.name)) × (field_of (codes "value") j ≡ Some o.value)

any_stands : (j : Json) → IfOk (any_at j) (λ k. j ≡ k)
any_stands j = refl

operation_stands : (j : Json) → IfOk (operation_at j) (IsOperationOf j)
unfolding operation_at
operation_stands (members ms) =
    let N : Json → List ℕ → Type 0 = λ j s. j ≡ words s in
    let V : Json → Json → Type 0 = λ j k. j ≡ k in
    after (IsUnder N (codes "operation") ms) (IsOperationOf (members ms)) (field_at (codes "operation") text_at ms) _ (field_stands N text_at text_stands (codes "operation") ms) (λ name n.
    after (IsUnder V (codes "value") ms) (IsOperationOf (members ms)) (field_at (codes "value") any_at ms) _ (field_stands V any_at any_stands (codes "value") ms) (λ value v.
    (n.1 ∙ ap Some n.2, v.1 ∙ ap Some v.2)))
operation_stands null = tt
operation_stands (flag b) = tt
operation_stands (whole z) = tt
operation_stands not_whole = tt
operation_stands (numeral s) = tt
operation_stands (words s) = tt
operation_stands (many js) = tt

each_operation : (i : ℕ) (js : Items) → IfOk (each_from operation_at i js) (AreOperations js)
each_operation i no_items = tt
each_operation i (item j js) =
    let All : List Operation → Type 0 = AreOperations (item j js) in
    after (IsOperationOf j) All (under (Index i) (operation_at j)) _ (within (IsOperationOf j) (Index i) (operation_at j) (operation_stands j)) (λ o p.
    after (AreOperations js) All (each_from operation_at (i + 1) js) _ (each_operation (i + 1) js) (λ os q. (p.0, p.1, q)))

abbrev AreOperationsOf : Json → List Operation → Type 0
AreOperationsOf j os = (js : Items) × (j ≡ many js) × AreOperations js os

operations_stand : (j : Json) → IfOk (operations_at j) (AreOperationsOf j)
unfolding operations_at
operations_stand (many js) = IfOk-weaker (each_from operation_at 0 js) (AreOperations js) (AreOperationsOf (many js)) (λ os h. (js, refl, h)) (each_operation 0 js)
operations_stand null = tt
operations_stand (flag b) = tt
operations_stand (whole z) = tt
operations_stand not_whole = tt
operations_stand (numeral s) = tt
operations_stand (words s) = tt
operations_stand (members ms) = tt

default_stands : (ms : Members) → IfOk (field_or_at (codes "default") (whole (pos 0)) any_at ms) (λ j. j ≡ unwrap_or (find_member (codes "default") ms) (whole (pos 0)))
unfolding field_or_at
default_stands ms =
    elim (find_member (codes "default") ms) as (λ found. IfOk (first_at found (λ j. under (Name (codes "default")) (any_at j)) (Ok (whole (pos 0)))) (λ j. j ≡ unwrap_or found (whole (pos 0)))) [
      | None ↦ refl
      | Some j ↦ refl
    ]

abbrev IsSetOf : Members → Packet → Type 0
IsSetOf ms packet = (set : SetPacket) × (packet ≡ change set) × IsAskedBy ms set

set_stands : (ms : Members) → IfOk (set_at ms) (IsSetOf ms)
unfolding set_at
set_stands ms =
    let K : Json → List ℕ → Type 0 = λ j s. j ≡ words s in
    after (IsUnder K (codes "key") ms) (IsSetOf ms) (field_at (codes "key") text_at ms) _ (field_stands K text_at text_stands (codes "key") ms) (λ key k.
    after (λ j. j ≡ unwrap_or (find_member (codes "default") ms) (whole (pos 0))) (IsSetOf ms) (field_or_at (codes "default") (whole (pos 0)) any_at ms) _ (default_stands ms) (λ fallback d.
    past (IsSetOf ms) (field_or_at (codes "want_reply") false flag_at ms) _ (λ want_reply.
    after (IsUnder AreOperationsOf (codes "operations") ms) (IsSetOf ms) (field_at (codes "operations") operations_at ms) _ (field_stands AreOperationsOf operations_at operations_stand (codes "operations") ms) (λ operations o. (
      record { key = key; fallback = fallback; want_reply = want_reply; operations = operations; further = others set_names ms },
      refl,
      record { key = k.1 ∙ ap Some k.2; fallback = d; operations = (o.2.0, o.1 ∙ ap Some o.2.1, o.2.2); further = others_stay set_names ms },
    )))))

pub sets_stay : SetsStay
sets_stay text i ms p h = IfOk-at_ok (IsSetOf ms) (told_good (codes "Set") (set_at ms) p (sent_told text i (codes "Set") ms p h)) (set_stands ms)
