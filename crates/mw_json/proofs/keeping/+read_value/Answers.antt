use Rattle.std.proofs.Common.{◌≡◌, ◌-◌, ◌<◌, [], ◌∷◌, length, Some, None, string_bytes, sym, ap, ap₂, ◌∙◌, arith, rules}
use Rattle.json.specs.Token.{Token}
use Rattle.json.specs.Json.{parse_map, after_end_array, read_key, items, members, value}
use Rattle.json.specs.Reads.{token_of}
use Rattle.json.proofs.Grammar.{value_is, value-begin_array, value-begin_object, read_key-shorter, items_fail, members_fail, members_no_key}
use Rattle.mw_model.specs.Json.{many, no_members, null, flag, words}
use Rattle.mw_model.specs.Json as plain
use Rattle.mw_model.specs.Trees.{set_member}
use Rattle.mw_json.specs.Entries.{entries_view}
use Rattle.mw_json.specs.KeptReading.{kept_value, kept_items, kept_members}
use Rattle.mw_json.specs.View.{items_view, members_view, view}
use Rattle.mw_json.specs.declared.tree.Tree.{Words, Flag, Null, Many, Members, the_lemmas}
use Rattle.mw_json.proofs.KeptLoops.{kept-array, kept-object, item_read, items_over, member_read, members_over, items_before, items_before-no_items, one_more_item, none_before, none_from}
use Rattle.mw_json.proofs.keeping.+read_value.Goals as goal

pub read_value-returns-in_err-token-clause-no_json : goal.read_value-returns-in_err-token-clause-no_json
read_value-returns-in_err-token-clause-no_json t c refused =
    let empty : c.args.reader.now ≡ [] = grind arith in
    ap (value c.args.levels) empty ∙ value_is c.args.levels []

pub read_value-returns-then-levels-eq0-clause-no_json : goal.read_value-returns-then-levels-eq0-clause-no_json
unfolding value
read_value-returns-then-levels-eq0-clause-no_json t c never =
    let first : c.args.reader.now ≡ token_of c.in_ok-token.token ∷ c.next.new.self = grind arith in
    let none : c.args.levels ≡ 0 = omega arith in
    ap₂ value none (first ∙ ap (λ k. token_of k ∷ c.next.new.self) c.in-BeginArray.is)

pub read_value-returns-then-levels-eq0-2-clause-no_json : goal.read_value-returns-then-levels-eq0-2-clause-no_json
unfolding value
read_value-returns-then-levels-eq0-2-clause-no_json t c never =
    let first : c.args.reader.now ≡ token_of c.in_ok-token.token ∷ c.next.new.self = grind arith in
    let none : c.args.levels ≡ 0 = omega arith in
    ap₂ value none (first ∙ ap (λ k. token_of k ∷ c.next.new.self) c.in-BeginObject.is)

pub read_value-returns-in_err-read_items-in-BeginArray-clause-no_json : goal.read_value-returns-in_err-read_items-in-BeginArray-clause-no_json
read_value-returns-in_err-read_items-in-BeginArray-clause-no_json t c refused =
    let first : c.args.reader.now ≡ token_of c.in_ok-token.token ∷ c.next.new.self = grind arith in
    let opened = ap (value c.args.levels) (first ∙ ap (λ k. token_of k ∷ c.next.new.self) c.in-BeginArray.is) ∙ value-begin_array c.args.levels c.next.new.self (omega arith) in
    opened ∙ ap (parse_map _) (c.read_items.ensures.no_json (grind arith))

pub read_value-returns-in_err-found-in-BeginObject-clause-no_json : goal.read_value-returns-in_err-found-in-BeginObject-clause-no_json
read_value-returns-in_err-found-in-BeginObject-clause-no_json t c refused =
    let first : c.args.reader.now ≡ token_of c.in_ok-token.token ∷ c.next.new.self = grind arith in
    let opened = ap (value c.args.levels) (first ∙ ap (λ k. token_of k ∷ c.next.new.self) c.in-BeginObject.is) ∙ value-begin_object c.args.levels c.next.new.self (omega arith) in
    opened ∙ ap (parse_map _) (c.read_members.ensures.no_json (grind arith))

pub read_value-returns-in_ok-of-in-String-clause-ok : goal.read_value-returns-in_ok-of-in-String-clause-ok
read_value-returns-in_ok-of-in-String-clause-ok t c =
    let first : c.args.reader.now ≡ token_of c.in_ok-token.token ∷ c.next.new.self = grind arith in
    let is : c.args.reader.now ≡ Token.string c.in-String.text.now ∷ c.next.new.self = grind (arith, first) in
    let seen : view (Words c.in_ok-of-in-String.field-0) ≡ words c.in_ok-of-in-String.field-0 = search (rules, the_lemmas) in
    ap (parse_map kept_value) (ap (value c.args.levels) is ∙ value_is c.args.levels _) ∙ ap (λ j. Some (j, c.next.new.self)) (ap words (sym c.in_ok-of-in-String.ensures) ∙ sym seen)

pub read_value-returns-in_ok-number_of_text-in-Number-clause-ok : goal.read_value-returns-in_ok-number_of_text-in-Number-clause-ok
read_value-returns-in_ok-number_of_text-in-Number-clause-ok t c =
    let first : c.args.reader.now ≡ token_of c.in_ok-token.token ∷ c.next.new.self = grind arith in
    let is : c.args.reader.now ≡ Token.number c.in-Number.text.now ∷ c.next.new.self = grind (arith, first) in
    ap (parse_map kept_value) (ap (value c.args.levels) is ∙ value_is c.args.levels _) ∙ ap (λ j. Some (j, c.next.new.self)) (sym c.in_ok-number_of_text-in-Number.ensures)

pub read_value-returns-in-Bool-clause-ok : goal.read_value-returns-in-Bool-clause-ok
read_value-returns-in-Bool-clause-ok t c =
    let first : c.args.reader.now ≡ token_of c.in_ok-token.token ∷ c.next.new.self = grind arith in
    let is : c.args.reader.now ≡ Token.boolean c.in-Bool.flag ∷ c.next.new.self = grind (arith, first) in
    let seen : view (Flag c.in-Bool.flag) ≡ flag c.in-Bool.flag = search (rules, the_lemmas) in
    ap (parse_map kept_value) (ap (value c.args.levels) is ∙ value_is c.args.levels _) ∙ ap (λ j. Some (j, c.next.new.self)) (sym seen)

pub read_value-returns-in-Null-clause-ok : goal.read_value-returns-in-Null-clause-ok
read_value-returns-in-Null-clause-ok t c =
    let first : c.args.reader.now ≡ token_of c.in_ok-token.token ∷ c.next.new.self = grind arith in
    let is : c.args.reader.now ≡ Token.null ∷ c.next.new.self = grind (arith, first) in
    let seen : view Null ≡ null = search (rules, the_lemmas) in
    ap (parse_map kept_value) (ap (value c.args.levels) is ∙ value_is c.args.levels _) ∙ ap (λ j. Some (j, c.next.new.self)) (sym seen)

pub read_value-returns-in-EndObject-clause-no_json : goal.read_value-returns-in-EndObject-clause-no_json
read_value-returns-in-EndObject-clause-no_json t c refused =
    let first : c.args.reader.now ≡ token_of c.in_ok-token.token ∷ c.next.new.self = grind arith in
    rw (value_is c.args.levels c.args.reader.now, first) (grind arith)

pub read_value-returns-in_ok-read_items-in-BeginArray-clause-ok : goal.read_value-returns-in_ok-read_items-in-BeginArray-clause-ok
read_value-returns-in_ok-read_items-in-BeginArray-clause-ok t c =
    let first : c.args.reader.now ≡ token_of c.in_ok-token.token ∷ c.next.new.self = grind arith in
    let opened = ap (parse_map kept_value) (ap (value c.args.levels) (first ∙ ap (λ k. token_of k ∷ c.next.new.self) c.in-BeginArray.is) ∙ value-begin_array c.args.levels c.next.new.self (omega arith)) ∙ kept-array (items (value (c.args.levels - 1)) (length c.next.new.self) c.next.new.self) in
    let found = c.in_ok-read_items-in-BeginArray in
    let seen : view (Many found.field-0) ≡ many (items_view found.field-0) = search (rules, the_lemmas) in
    opened ∙ ap (parse_map many) found.ensures.ok ∙ ap (λ j. Some (j, c.read_items.new.reader)) (sym seen)

pub read_value-returns-in_ok-members_of-in-BeginObject-clause-ok : goal.read_value-returns-in_ok-members_of-in-BeginObject-clause-ok
read_value-returns-in_ok-members_of-in-BeginObject-clause-ok t c =
    let first : c.args.reader.now ≡ token_of c.in_ok-token.token ∷ c.next.new.self = grind arith in
    let opened = ap (parse_map kept_value) (ap (value c.args.levels) (first ∙ ap (λ k. token_of k ∷ c.next.new.self) c.in-BeginObject.is) ∙ value-begin_object c.args.levels c.next.new.self (omega arith)) ∙ kept-object (members (value (c.args.levels - 1)) (length c.next.new.self) c.next.new.self) in
    let made = c.in_ok-members_of-in-BeginObject in
    let seen : view (Members made.field-0) ≡ plain.members (members_view made.field-0) = search (rules, the_lemmas) in
    opened ∙ ap (parse_map plain.members) c.in_ok-found-in-BeginObject.ensures.ok ∙ ap (λ j. Some (j, c.read_members.new.reader)) (ap plain.members (sym made.ensures) ∙ sym seen)

pub read_items-items-init : goal.read_items-items-init
read_items-items-init t c =
    let all = parse_map kept_items (items (value c.args.levels) (length c.args.reader.now) c.args.reader.now) in
    (length c.args.reader.now, omega arith, none_before all ∙ ap (λ ts. parse_map (items_before ts) all) (sym c.new-found.ensures), omega arith)

pub read_items-returns-in_err-item-clause-no_json : goal.read_items-returns-in_err-item-clause-no_json
read_items-returns-in_err-item-clause-no_json t c refused =
    let p = value c.args.levels in
    let l = c.items in
    let n = l.invariant.0 in
    let going : (after_end_array l.reader ≡ None) × (c.take_end_array.new.self ≡ l.reader) = grind arith in
    let none = items_fail p n l.reader going.0 (rw (← going.1) (c.read_value.ensures.no_json (grind arith))) in
    none_from kept_items _ (l.invariant.2 ∙ ap (λ o. parse_map (items_before l.found) (parse_map kept_items o)) none)

pub read_items-items-preserved : goal.read_items-items-preserved
read_items-items-preserved t c =
    let p = value c.args.levels in
    let l = c.items in
    let n = l.invariant.0 in
    let going : (after_end_array l.reader ≡ None) × (c.take_end_array.new.self ≡ l.reader) = grind arith in
    let done = c.in_ok-item.ensures in
    let v = c.in_ok-item.item in
    let r = c.read_value.new.reader in
    let less : length r < length l.reader = rw (← going.1) done.shorter in
    let turn = item_read p n l.reader r (view v) (omega (arith, l.invariant.1)) going.0 (rw (← going.1) done.ok) in (
      n - 1,
      omega (arith, l.invariant.1),
      l.invariant.2 ∙ ap (parse_map (items_before l.found)) turn ∙ one_more_item l.found v _
          ∙ ap (λ ts. parse_map (items_before ts) (parse_map kept_items (items p (n - 1) r))) (sym c.in_ok-push.ensures.ok),
      omega (arith, l.invariant.3),
    )

pub read_items-returns-clause-ok : goal.read_items-returns-clause-ok
read_items-returns-clause-ok t c =
    let p = value c.args.levels in
    let l = c.items in
    let n = l.invariant.0 in
    let r = c.take_end_array.new.self in
    l.invariant.2 ∙ ap (parse_map (items_before l.found)) (items_over p n l.reader r l.invariant.1 (grind arith)) ∙ ap (λ js. Some (js, r)) (items_before-no_items l.found)

pub read_members-members-init : goal.read_members-members-init
read_members-members-init t c =
    let all = members (value c.args.levels) (length c.args.reader.now) c.args.reader.now in
    (length c.args.reader.now, omega arith, ap (λ es. parse_map (λ ms. kept_members ms (entries_view es)) all) (sym c.new-found.ensures.empty), omega arith)

pub read_members-returns-in_err-name-clause-no_json : goal.read_members-returns-in_err-name-clause-no_json
read_members-returns-in_err-name-clause-no_json t c refused =
    let p = value c.args.levels in
    let l = c.members in
    let n = l.invariant.0 in
    let old = entries_view l.found.entries in
    let none = members_no_key p n l.reader c.in_err-name.ensures.no_json.1 in
    none_from (λ ms. kept_members ms no_members) _ (l.invariant.2 ∙ ap (parse_map (λ ms. kept_members ms old)) none)

pub read_members-returns-in_err-value-clause-no_json : goal.read_members-returns-in_err-value-clause-no_json
read_members-returns-in_err-value-clause-no_json t c refused =
    let p = value c.args.levels in
    let l = c.members in
    let n = l.invariant.0 in
    let old = entries_view l.found.entries in
    let k = c.in-Some.name.now in
    let s = c.next_name.new.reader in
    let named : read_key l.reader ≡ Some (Some k, s) = grind arith in
    let none = members_fail p n k l.reader s named (c.read_value.ensures.no_json (grind arith)) in
    none_from (λ ms. kept_members ms no_members) _ (l.invariant.2 ∙ ap (parse_map (λ ms. kept_members ms old)) none)

pub read_members-members-preserved : goal.read_members-members-preserved
read_members-members-preserved t c =
    let p = value c.args.levels in
    let l = c.members in
    let n = l.invariant.0 in
    let old = entries_view l.found.entries in
    let k = c.in-Some.name.now in
    let s = c.next_name.new.reader in
    let named : read_key l.reader ≡ Some (Some k, s) = grind arith in
    let done = c.in_ok-value.ensures in
    let v = c.in_ok-value.value in
    let r = c.read_value.new.reader in
    let less = read_key-shorter l.reader (Some k) s named in
    let lesser = done.shorter in
    let copied : string_bytes c.into_string-name.result ≡ k = c.into_string-name.ensures ∙ c.in_ok-of.ensures in
    let inserted : entries_view c.put.new.found.entries ≡ set_member k (view v) old = c.in_ok-put.ensures ∙ ap (λ name. set_member name (view v) old) copied in (
      n - 1,
      omega (arith, l.invariant.1),
      l.invariant.2 ∙ member_read p old n k l.reader s r (view v) (omega (arith, l.invariant.1)) named done.ok
          ∙ ap (λ found. parse_map (λ ms. kept_members ms found) (members p (n - 1) r)) (sym inserted),
      omega (arith, l.invariant.3),
    )

pub read_members-returns-clause-ok : goal.read_members-returns-clause-ok
read_members-returns-clause-ok t c =
    let p = value c.args.levels in
    let l = c.members in
    let n = l.invariant.0 in
    let old = entries_view l.found.entries in
    l.invariant.2 ∙ members_over p old n l.reader c.next_name.new.reader l.invariant.1 (grind arith)
