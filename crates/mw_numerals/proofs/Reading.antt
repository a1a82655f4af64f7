-- The marked text of a JSON text is a text of the marked value.
use Rattle.std.proofs.Common.{◌≡◌, ℕ, suc, max, Bool, true, false, cond, List, [], ◌∷◌, ◌++◌, map, refl, sym, ap, ap₂, ◌∙◌, subst, arith, append-nil}
use Rattle.std.proofs.lemmas.Bool.{false≢true, and_parts, and_from}
use Rattle.std.specs.List.{list_all}
use Rattle.json.specs.Json as json
use Rattle.json.specs.Lex.{Lexeme, token, comma, colon, between, lex, tokens, Place, fresh, after_value, after_comma, after_key, begins_colon, may_begin, may_close, if_allowed, place_token, punctuate}
use Rattle.json.specs.Token.{Token}
use Rattle.json.specs.Tree.{json_tokens, items_tokens, members_tokens, depth, items_depth, members_depth}
use Rattle.json.proofs.Nesting.{value-depth}
use Rattle.json.proofs.Printed.Trees.{value-json_tokens}
use Rattle.json.proofs.Unique.Spelling.{value-json_tokens_back}
use Rattle.mw_numerals.specs.Numerals.{is_kept}
use Rattle.mw_numerals.specs.Values.{marked_value, marked_items, marked_members, IsReadMarked}
use Rattle.mw_numerals.proofs.Lexing.{mark_token, mark_lexeme, is_good_lexeme, AreGood, lexemes_marked}
use Rattle.mw_numerals.proofs.Taken.{is_good}

-- ---- commas and colons

abbrev AreGoodTokens : List Token → Type 0
AreGoodTokens ts = list_all is_good ts ≡ true

place_is : (p : Place) (t : Token) (ls : List Lexeme) → punctuate p (token t ∷ ls) ≡ place_token p t (begins_colon ls) (λ next. punctuate next ls)
unfolding punctuate
place_is fresh t ls = refl
place_is after_value t ls = refl
place_is after_comma t ls = refl
place_is after_key t ls = refl

same_colon : (ls : List Lexeme) → begins_colon (map mark_lexeme ls) ≡ begins_colon ls
same_colon [] = refl
same_colon (token t ∷ ls) = refl
same_colon (comma ∷ ls) = refl
same_colon (colon ∷ ls) = refl

-- what is so of a rest of the lexemes, at each place
record Goes (k m : Place → List Token) (ls : List Lexeme) : Type 0 where
  good : (p : Place) → AreGoodTokens (k p) → AreGood ls
  marks : (p : Place) → AreGoodTokens (k p) → m p ≡ map mark_token (k p)

record GoesOn (ts us : List Token) (ls : List Lexeme) : Type 0 where
  good : AreGoodTokens ts → AreGood ls
  marks : AreGoodTokens ts → us ≡ map mark_token ts

abbrev ends_there : List Token
ends_there = Token.bad ∷ []

faulty : (ls : List Lexeme) → GoesOn ends_there ends_there ls
faulty ls = record { good = λ h. absurd (false≢true h); marks = λ h. refl }

allowed : (b : Bool) (t u : Token) (k m : Place → List Token) (next : Place) (l : Lexeme) (ls : List Lexeme) → u ≡ mark_token t → is_good_lexeme l ≡ true → Goes k m ls
    → GoesOn (if_allowed b t k next) (if_allowed b u m next) (l ∷ ls)
allowed true t u k m next l ls e f g = record {
  good = λ h. and_from (is_good_lexeme l) _ f (g.good next (and_parts (is_good t) _ h).1);
  marks = λ h. ap₂ (λ x xs. x ∷ xs) e (g.marks next (and_parts (is_good t) _ h).1);
}
allowed false t u k m next l ls e f g = faulty (l ∷ ls)

-- a numeral has no colon after it
module _ (p : Place) (s : List ℕ) (k m : Place → List Token) (ls : List Lexeme) (g : Goes k m ls) (none : (colon_next : begins_colon ls ≡ true) → AreGoodTokens (k after_value) → ⊥) where
  not_named : (b : Bool) (ts : List Token) (l : Lexeme) → (AreGoodTokens (k after_value) → ⊥) → GoesOn (if_allowed b (Token.number s) k after_value) ts (l ∷ ls)
  not_named true ts l never = record { good = λ h. absurd (never (and_parts true _ h).1); marks = λ h. absurd (never (and_parts true _ h).1) }
  not_named false ts l never = record { good = λ h. absurd (false≢true h); marks = λ h. absurd (false≢true h) }

  number_placed : (kept c : Bool) → is_kept s ≡ kept → begins_colon ls ≡ c
      → GoesOn (place_token p (Token.number s) c k) (place_token p (cond kept (Token.string (110 ∷ s)) (Token.number s)) c m) (token (Token.number s) ∷ ls)
  number_placed false c e f = allowed (may_begin p) (Token.number s) (Token.number s) k m after_value (token (Token.number s)) ls (ap (λ b. cond b (Token.string (110 ∷ s)) (Token.number s)) (sym e)) refl g
  number_placed true false e f =
      allowed (may_begin p) (Token.number s) (Token.string (110 ∷ s)) k m after_value (token (Token.number s)) ls (ap (λ b. cond b (Token.string (110 ∷ s)) (Token.number s)) (sym e)) refl g
  number_placed true true e f = not_named (may_begin p) _ (token (Token.number s)) (none f)

text_placed : (p : Place) (s : List ℕ) (k m : Place → List Token) (ls : List Lexeme) → Goes k m ls → (c : Bool)
    → GoesOn (place_token p (Token.string s) c k) (place_token p (Token.string (115 ∷ s)) c m) (token (Token.string s) ∷ ls)
text_placed p s k m ls g true = allowed (may_begin p) (Token.key s) (Token.key (115 ∷ s)) k m after_key (token (Token.string s)) ls refl refl g
text_placed p s k m ls g false = allowed (may_begin p) (Token.string s) (Token.string (115 ∷ s)) k m after_value (token (Token.string s)) ls refl refl g

placed : (p : Place) (t : Token) (k m : Place → List Token) (ls : List Lexeme) → Goes k m ls → ((colon_next : begins_colon ls ≡ true) → AreGoodTokens (k after_value) → ⊥)
    → GoesOn (place_token p t (begins_colon ls) k) (place_token p (mark_token t) (begins_colon ls) m) (token t ∷ ls)
placed p Token.begin_object k m ls g none = allowed (may_begin p) Token.begin_object Token.begin_object k m fresh (token Token.begin_object) ls refl refl g
placed p Token.end_object k m ls g none = allowed (may_close p) Token.end_object Token.end_object k m after_value (token Token.end_object) ls refl refl g
placed p Token.begin_array k m ls g none = allowed (may_begin p) Token.begin_array Token.begin_array k m fresh (token Token.begin_array) ls refl refl g
placed p Token.end_array k m ls g none = allowed (may_close p) Token.end_array Token.end_array k m after_value (token Token.end_array) ls refl refl g
placed p (Token.key s) k m ls g none = faulty (token (Token.key s) ∷ ls)
placed p (Token.string s) k m ls g none = text_placed p s k m ls g (begins_colon ls)
placed p (Token.number s) k m ls g none = number_placed p s k m ls g none (is_kept s) (begins_colon ls) refl refl
placed p (Token.boolean b) k m ls g none = allowed (may_begin p) (Token.boolean b) (Token.boolean b) k m after_value (token (Token.boolean b)) ls refl refl g
placed p Token.null k m ls g none = allowed (may_begin p) Token.null Token.null k m after_value (token Token.null) ls refl refl g
placed p Token.bad k m ls g none = faulty (token Token.bad ∷ ls)

-- a colon follows no value
no_colon : (ls : List Lexeme) → begins_colon ls ≡ true → AreGoodTokens (punctuate after_value ls) → ⊥
unfolding punctuate
no_colon [] e h = false≢true e
no_colon (token t ∷ ls) e h = false≢true e
no_colon (comma ∷ ls) e h = false≢true e
no_colon (colon ∷ ls) e h = false≢true h

abbrev Punctuated : Place → List Lexeme → Type 0
Punctuated p ls = GoesOn (punctuate p ls) (punctuate p (map mark_lexeme ls)) ls

one_more : (l : Lexeme) (ts us : List Token) (ls : List Lexeme) → is_good_lexeme l ≡ true → GoesOn ts us ls → GoesOn ts us (l ∷ ls)
one_more l ts us ls e g = record { good = λ h. and_from (is_good_lexeme l) _ e (g.good h); marks = g.marks }

punctuated : (ls : List Lexeme) (p : Place) → Punctuated p ls
unfolding punctuate
punctuated [] fresh = record { good = λ h. refl; marks = λ h. refl }
punctuated [] after_value = record { good = λ h. refl; marks = λ h. refl }
punctuated [] after_comma = record { good = λ h. refl; marks = λ h. refl }
punctuated [] after_key = record { good = λ h. refl; marks = λ h. refl }
punctuated (token t ∷ ls) p =
    let k : Place → List Token = λ next. punctuate next ls in
    let m : Place → List Token = λ next. punctuate next (map mark_lexeme ls) in
    let g : Goes k m ls = record { good = λ q. (punctuated ls q).good; marks = λ q. (punctuated ls q).marks } in
    let marked : place_token p (mark_token t) (begins_colon ls) m ≡ punctuate p (map mark_lexeme (token t ∷ ls)) =
    ap (λ c. place_token p (mark_token t) c m) (sym (same_colon ls)) ∙ sym (place_is p (mark_token t) (map mark_lexeme ls)) in
    subst (λ ts. GoesOn ts (punctuate p (map mark_lexeme (token t ∷ ls))) (token t ∷ ls)) (sym (place_is p t ls))
    (subst (λ us. GoesOn (place_token p t (begins_colon ls) k) us (token t ∷ ls)) marked (placed p t k m ls g (no_colon ls)))
punctuated (comma ∷ ls) fresh = faulty (comma ∷ ls)
punctuated (comma ∷ ls) after_value = one_more comma _ _ ls refl (punctuated ls after_comma)
punctuated (comma ∷ ls) after_comma = faulty (comma ∷ ls)
punctuated (comma ∷ ls) after_key = faulty (comma ∷ ls)
punctuated (colon ∷ ls) fresh = faulty (colon ∷ ls)
punctuated (colon ∷ ls) after_value = faulty (colon ∷ ls)
punctuated (colon ∷ ls) after_comma = faulty (colon ∷ ls)
punctuated (colon ∷ ls) after_key = one_more colon _ _ ls refl (punctuated ls fresh)

-- ---- the tokens of a value

all_good : (ts us : List Token) → AreGoodTokens ts → AreGoodTokens us → AreGoodTokens (ts ++ us)
all_good [] us h k = k
all_good (t ∷ ts) us h k = let parts = and_parts (is_good t) _ h in and_from (is_good t) _ parts.0 (all_good ts us parts.1 k)

mutual
  value_good : (j : json.Json) → AreGoodTokens (json_tokens j)
  value_good json.null = refl
  value_good (json.boolean b) = refl
  value_good (json.number s) = refl
  value_good (json.string s) = refl
  value_good (json.array js) = items_good js
  value_good (json.object ms) = members_good ms

  items_good : (js : json.Items) → AreGoodTokens (items_tokens js)
  items_good json.no_items = refl
  items_good (json.item j js) = all_good (json_tokens j) (items_tokens js) (value_good j) (items_good js)

  members_good : (ms : json.Members) → AreGoodTokens (members_tokens ms)
  members_good json.no_members = refl
  members_good (json.member k j ms) = all_good (json_tokens j) (members_tokens ms) (value_good j) (members_good ms)

map_both : (ts us : List Token) → map mark_token (ts ++ us) ≡ map mark_token ts ++ map mark_token us
map_both [] us = refl
map_both (t ∷ ts) us = ap (λ l. mark_token t ∷ l) (map_both ts us)

number_tokens : (b : Bool) (s : List ℕ) → cond b (Token.string (110 ∷ s)) (Token.number s) ∷ [] ≡ json_tokens (cond b (json.string (110 ∷ s)) (json.number s))
number_tokens true s = refl
number_tokens false s = refl

mutual
  tokens_marked : (j : json.Json) → map mark_token (json_tokens j) ≡ json_tokens (marked_value j)
  tokens_marked json.null = refl
  tokens_marked (json.boolean b) = refl
  tokens_marked (json.number s) = number_tokens (is_kept s) s
  tokens_marked (json.string s) = refl
  tokens_marked (json.array js) = ap (λ l. Token.begin_array ∷ l) (items_marked js)
  tokens_marked (json.object ms) = ap (λ l. Token.begin_object ∷ l) (members_marked ms)

  items_marked : (js : json.Items) → map mark_token (items_tokens js) ≡ items_tokens (marked_items js)
  items_marked json.no_items = refl
  items_marked (json.item j js) = map_both (json_tokens j) (items_tokens js) ∙ ap₂ (λ a b. a ++ b) (tokens_marked j) (items_marked js)

  members_marked : (ms : json.Members) → map mark_token (members_tokens ms) ≡ members_tokens (marked_members ms)
  members_marked json.no_members = refl
  members_marked (json.member k j ms) = ap (λ l. Token.key (115 ∷ k) ∷ l) (map_both (json_tokens j) (members_tokens ms) ∙ ap₂ (λ a b. a ++ b) (tokens_marked j) (members_marked ms))

number_depth : (b : Bool) (s : List ℕ) → depth (cond b (json.string (110 ∷ s)) (json.number s)) ≡ 0
number_depth true s = refl
number_depth false s = refl

mutual
  pub depth_marked : (j : json.Json) → depth (marked_value j) ≡ depth j
  depth_marked json.null = refl
  depth_marked (json.boolean b) = refl
  depth_marked (json.number s) = number_depth (is_kept s) s
  depth_marked (json.string s) = refl
  depth_marked (json.array js) = ap suc (items_depth_marked js)
  depth_marked (json.object ms) = ap suc (members_depth_marked ms)

  items_depth_marked : (js : json.Items) → items_depth (marked_items js) ≡ items_depth js
  items_depth_marked json.no_items = refl
  items_depth_marked (json.item j js) = ap₂ max (depth_marked j) (items_depth_marked js)

  members_depth_marked : (ms : json.Members) → members_depth (marked_members ms) ≡ members_depth ms
  members_depth_marked json.no_members = refl
  members_depth_marked (json.member k j ms) = ap₂ max (depth_marked j) (members_depth_marked ms)

-- ---- the whole

pub read_marked : IsReadMarked
read_marked text result d j m e =
    let spelled : tokens text ≡ json_tokens j = value-json_tokens_back d (tokens text) [] j e ∙ append-nil (json_tokens j) in
    let good : AreGoodTokens (tokens text) = ap (list_all is_good) spelled ∙ value_good j in
    let p = punctuated (lex between text) fresh in
    let now : tokens result ≡ json_tokens (marked_value j) ++ [] =
    ap (punctuate fresh) (lexemes_marked text result m (p.good good)) ∙ (p.marks good ∙ (ap (map mark_token) spelled ∙ (tokens_marked j ∙ sym (append-nil (json_tokens (marked_value j)))))) in
    ap (json.value d) now ∙ value-json_tokens (marked_value j) d [] (omega (arith, depth_marked j, value-depth d (tokens text) [] j e))
