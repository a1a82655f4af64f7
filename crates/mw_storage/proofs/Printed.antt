-- The compact text of a value is as long as its parts say.
use Rattle.std.proofs.Common.{◌≡◌, ◌+◌, ◌<◌, ◌≤◌, ◌^◌, ◌/◌, ℕ, max, Bool, true, false, List, [], ◌∷◌, ◌++◌, length, decimal, refl, ap, ◌∙◌, append_assoc, append-nil, length-append, arith}
use Rattle.std.proofs.lemmas.Fmt.{decimal_by_steps, decimal_step}
use Rattle.json.specs.Token.{Token}
use Rattle.json.specs.Print.{print_from, escape, quoted, begins, ends, token_text}
use Rattle.json.specs.Tree.{json_tokens, items_tokens, members_tokens}
use Rattle.mw_model.specs.Json.{Json, null, flag, whole, not_whole, numeral, words, many, members, Items, no_items, item, Members, no_members, member}
use Rattle.mw_model.specs.Spelling.{spelling, number_text, outline, items_outline, members_outline}
use Rattle.mw_storage.specs.Sizes.{quoted_size, size, items_size, members_size}

-- a comma behind a value
abbrev comma : Bool → ℕ
comma true = 1
comma false = 0

-- the text of these tokens, where a value went before or none
abbrev text_size : Bool → List Token → ℕ
text_size after ts = length (print_from after ts)

head : (after : Bool) (t : Token) (ts : List Token) → begins t ≡ true → text_size after (t ∷ ts) ≡ comma after + length (token_text t) + text_size (ends t) ts
unfolding print_from
head true t ts e = rw e (omega (arith, length-append (token_text t) (print_from (ends t) ts)))
head false t ts e = omega (arith, length-append (token_text t) (print_from (ends t) ts))

size_of_quoted : (s : List ℕ) → length (quoted s) ≡ quoted_size s
size_of_quoted s = omega (arith, length-append (escape s) (34 ∷ []))

size_of_key : (s : List ℕ) → length (token_text (Token.key s)) ≡ quoted_size s + 1
size_of_key s = omega (arith, length-append (quoted s) (58 ∷ []), size_of_quoted s)

mutual
  unfolding print_from

  printed : (after : Bool) (j : Json) (ts : List Token) → text_size after (json_tokens (outline j) ++ ts) ≡ comma after + size j + text_size true ts
  printed after null ts = head after Token.null ts refl
  printed after (flag true) ts = head after (Token.boolean true) ts refl
  printed after (flag false) ts = head after (Token.boolean false) ts refl
  printed after (whole z) ts = head after (Token.number (number_text z)) ts refl
  printed after not_whole ts = head after Token.null ts refl
  printed after (numeral s) ts = head after (Token.number s) ts refl
  printed after (words s) ts = omega (arith, head after (Token.string s) ts refl, size_of_quoted s)
  printed after (many js) ts = omega (arith, head after Token.begin_array (items_tokens (items_outline js) ++ ts) refl, first_items js ts)
  printed after (members ms) ts = omega (arith, head after Token.begin_object (members_tokens (members_outline ms) ++ ts) refl, first_members ms ts)

  first_items : (js : Items) (ts : List Token) → text_size false (items_tokens (items_outline js) ++ ts) ≡ max 1 (items_size js) + text_size true ts
  first_items no_items ts = omega arith
  first_items (item j js) ts =
      let rest : List Token = items_tokens (items_outline js) in
      omega (arith, ap (text_size false) (append_assoc (json_tokens (outline j)) rest ts), printed false j (rest ++ ts), next_items js ts)

  next_items : (js : Items) (ts : List Token) → text_size true (items_tokens (items_outline js) ++ ts) ≡ 1 + items_size js + text_size true ts
  next_items no_items ts = omega arith
  next_items (item j js) ts =
      let rest : List Token = items_tokens (items_outline js) in
      omega (arith, ap (text_size true) (append_assoc (json_tokens (outline j)) rest ts), printed true j (rest ++ ts), next_items js ts)

  first_members : (ms : Members) (ts : List Token) → text_size false (members_tokens (members_outline ms) ++ ts) ≡ max 1 (members_size ms) + text_size true ts
  first_members no_members ts = omega arith
  first_members (member k j ms) ts =
      let rest : List Token = members_tokens (members_outline ms) in
      let value : List Token = json_tokens (outline j) in
      omega (arith, head false (Token.key k) ((value ++ rest) ++ ts) refl, size_of_key k, ap (text_size false) (append_assoc value rest ts), printed false j (rest ++ ts), next_members ms ts)

  next_members : (ms : Members) (ts : List Token) → text_size true (members_tokens (members_outline ms) ++ ts) ≡ 1 + members_size ms + text_size true ts
  next_members no_members ts = omega arith
  next_members (member k j ms) ts =
      let rest : List Token = members_tokens (members_outline ms) in
      let value : List Token = json_tokens (outline j) in
      omega (arith, head true (Token.key k) ((value ++ rest) ++ ts) refl, size_of_key k, ap (text_size false) (append_assoc value rest ts), printed false j (rest ++ ts), next_members ms ts)

pub size_is : (j : Json) → length (spelling j) ≡ size j
unfolding print_from
size_is j = omega (arith, ap (text_size false) (append-nil (json_tokens (outline j))), printed false j [])

-- ---- digits

pub one_digit : (n : ℕ) → n < 10 → length (decimal n) ≡ 1
one_digit n h = decimal_by_steps (λ m ds. m < 10 → length ds ≡ 1) (λ m g k. refl) (λ m ds g k l. absurd (omega arith)) n (omega arith) h

pub next_digit : (n : ℕ) → 10 ≤ n → n < 2 ^ 64 → length (decimal n) ≡ length (decimal (n / 10)) + 1
next_digit n h k = ap length (decimal_step n h k) ∙ simp length-append
