-- The body that begins a text, from its kind, its count and its entries.
use Rattle.std.proofs.Common.{◌≡◌, ◌<◌, ◌≤◌, ◌^◌, ◌+◌, ◌*◌, ℕ, Bool, false, List, ◌∷◌, ◌++◌, length, take, drop, sym, ap, ◌∙◌, append_assoc, arith}
use Rattle.std.specs.Int.{w32, from_be_bytes, to_be_bytes}
use Rattle.std.specs.List.{flat_map, AllByRecursion}
use Rattle.std.proofs.lemmas.List.{drop-drop, take-append-drop}
use Rattle.std.proofs.lemmas.Nat.{from_be_bytes-to_be_bytes_4}
use Rattle.mw_model.specs.Items.{NetItem}
use Rattle.mw_client.specs.Bodies.{Begins, Body, IsEntry, after_body, entry_bytes, kind_byte}
use Rattle.mw_client.specs.Entering.{Enters}
use Rattle.mw_client.proofs.Spelling.{begun_count, begun_length}

-- a kind, a count and so many entries are a body
pub entered : (text : List ℕ) (replaces : Bool) (count : ℕ) (entries : List NetItem) (part : List ℕ) (before after : List NetItem) → count < 2 ^ 32 → (replaces ≡ false → 1 ≤ count) → length entries ≡ count → AllByRecursion IsEntry entries
    → text ≡ kind_byte replaces ∷ to_be_bytes w32 count ++ drop 5 text → flat_map entry_bytes entries ≡ part → part ≡ take (19 * count) (drop 5 text) → after ≡ after_body before record { replaces = replaces; items = entries }
    → Enters text (5 + 19 * count) before after
entered text replaces count entries part before after few some number are head spelled front list =
    let rest : List ℕ = drop (5 + 19 * count) text in
    let split : drop 5 text ≡ flat_map entry_bytes entries ++ rest =
    sym (take-append-drop (19 * count) (drop 5 text))
    ∙ ap (λ (x : List ℕ). x ++ drop (19 * count) (drop 5 text)) (sym (spelled ∙ front))
    ∙ ap (λ (x : List ℕ). flat_map entry_bytes entries ++ x) (drop-drop (19 * count) 5 text) in
    let same : to_be_bytes w32 count ≡ to_be_bytes w32 (length entries) = ap (λ (n : ℕ). to_be_bytes w32 n) (sym number) in
    record {
      body = record { replaces = replaces; items = entries };
      is = record { few = omega (arith, number, few); some = λ e. omega (arith, number, some e); entries = are };
      layout = head
          ∙ ap (λ (w : List ℕ). (kind_byte replaces ∷ w) ++ drop 5 text) same
          ∙ ap (λ (x : List ℕ). (kind_byte replaces ∷ to_be_bytes w32 (length entries)) ++ x) split
          ∙ sym (append_assoc (kind_byte replaces ∷ to_be_bytes w32 (length entries)) (flat_map entry_bytes entries) rest);
      list = list;
    }

-- no body begins a text that has too few bytes for its entries
pub too_short : (text : List ℕ) (replaces : Bool) (count : ℕ) → count < 2 ^ 32 → text ≡ kind_byte replaces ∷ to_be_bytes w32 count ++ drop 5 text → length text < 5 + 19 * count → (b : Body) → Begins text b → ⊥
too_short text replaces count few head short b begins =
    let told : from_be_bytes w32 (take 4 (drop 1 text)) ≡ count =
    ap (λ (l : List ℕ). from_be_bytes w32 (take 4 (drop 1 l))) head ∙ from_be_bytes-to_be_bytes_4 count few in
    let same : count ≡ length b.items = sym told ∙ begun_count text b begins in
    absurd (omega (arith, begun_length text b begins, same, short))
