-- Words ask for one thing at most.
use Rattle.std.proofs.Common.{◌≡◌, ◌<◌, ◌≤◌, ◌^◌, ◌∙◌, ℕ, List, [], ◌∷◌, Bool, Option, Some, None, IfSome, true, false, refl, ap, sym, arith, codes, decimal, slice_get}
use Rattle.std.proofs.lemmas.Fmt.{decimal_injective}
use Rattle.std.proofs.lemmas.Slice.Eq.{bytes_eq-Decides}
use Rattle.std.specs.Str.{bytes_eq}
use Rattle.std.specs.Borrow.{Bor}
use Rattle.clap.specs.Walk.{texts}
use Rattle.mw_words.specs.Words.{IsGenerate, IsCheck, IsNewRoom, IsDrive, IsServe, IsStress, IsThin}
use Rattle.mw_words.specs.Numbers.{spelt, said}
use Rattle.mw_words.specs.Lines.{AsksFor, HasOneMeaning, HasRanges, HasTries}
use Rattle.mw_words.specs.declared.command_line.CommandLine.{CommandLine}
use Rattle.mw_words.specs.declared.command_line.GenerateWords.{GenerateWords}
use Rattle.mw_words.specs.declared.command_line.CheckWords.{CheckWords}
use Rattle.mw_words.specs.declared.command_line.NewRoomWords.{NewRoomWords}
use Rattle.mw_words.specs.declared.command_line.DriveWords.{DriveWords}
use Rattle.mw_words.specs.declared.command_line.ServeWords.{ServeWords}
use Rattle.mw_words.specs.declared.command_line.StressWords.{StressWords}
use Rattle.mw_words.specs.declared.command_line.CommandLine.TheVariants.{Generate, Check, Reach, NewRoom, Drive, Serve, Stress, Thin}
use Rattle.mw_words.specs.declared.command_line.ThinWords.{ThinWords}

-- the first of borrowed words
pub first_text : (words : List (Bor (List ℕ))) (word : Bor (List ℕ)) (name : List ℕ) → Some word ≡ slice_get words 0 → word.now ≡ name → slice_get (texts words) 0 ≡ Some name
first_text [] word name first is = cc
first_text (w ∷ ws) word name first is = ap (λ (b : Bor (List ℕ)). Some b.now) (some_is w word (sym first)) ∙ ap Some is
  where
    some_is : (x y : Bor (List ℕ)) → Some x ≡ Some y → x ≡ y
    some_is x y e = cc

-- the first word tells the command
abbrev name_of : CommandLine → List ℕ
name_of (Generate w) = codes "generate"
name_of (Check w) = codes "check"
name_of (Reach w) = codes "reach"
name_of (NewRoom w) = codes "new-room"
name_of (Drive w) = codes "drive"
name_of (Serve w) = codes "serve"
name_of (Stress w) = codes "stress"
name_of (Thin w) = codes "thin"

named : (words : List (List ℕ)) (line : CommandLine) → AsksFor words line → slice_get words 0 ≡ Some (name_of line)
named words (Generate w) h = h.taken.named
named words (Check w) h = h.taken.named
named words (Reach w) h = h.taken.named
named words (NewRoom w) h = h.taken.named
named words (Drive w) h = h.taken.named
named words (Serve w) h = h.taken.named
named words (Stress w) h = h.taken.named
named words (Thin w) h = h.taken.named

-- what is given is one
given_one : (o : Option (List ℕ)) (a b : List ℕ) → o ≡ Some a → o ≡ Some b → a ≡ b
given_one o a b first second = cc

apart : (o : Option (List ℕ)) (a b : List ℕ) → bytes_eq a b ≡ false → o ≡ Some a → o ≡ Some b → ⊥
apart o a b other first second =
    let same : bytes_eq a b ≡ true = (bytes_eq-Decides a b).1 (given_one o a b first second) in
    cc

-- words that begin with `generate` ask for nothing else
pub only_generate : (words : List (List ℕ)) (line : CommandLine) → slice_get words 0 ≡ Some (codes "generate") → ((wanted : GenerateWords) → IsGenerate words wanted → ⊥) → AsksFor words line → ⊥
only_generate words (Generate w) first none asks = none _ asks
only_generate words line first none asks = apart (slice_get words 0) (codes "generate") (name_of line) refl first (named words line asks)

-- the same of `check`
pub only_check : (words : List (List ℕ)) (line : CommandLine) → slice_get words 0 ≡ Some (codes "check") → ((asked : CheckWords) → IsCheck words asked → ⊥) → AsksFor words line → ⊥
only_check words (Check w) first none asks = none _ asks
only_check words line first none asks = apart (slice_get words 0) (codes "check") (name_of line) refl first (named words line asks)

-- the same of `new-room`
pub only_new_room : (words : List (List ℕ)) (line : CommandLine) → slice_get words 0 ≡ Some (codes "new-room") → ((room : NewRoomWords) → IsNewRoom words room → ⊥) → AsksFor words line → ⊥
only_new_room words (NewRoom w) first none asks = none _ asks
only_new_room words line first none asks = apart (slice_get words 0) (codes "new-room") (name_of line) refl first (named words line asks)

-- the same of `drive`
pub only_drive : (words : List (List ℕ)) (line : CommandLine) → slice_get words 0 ≡ Some (codes "drive") → ((files : DriveWords) → IsDrive words files → ⊥) → AsksFor words line → ⊥
only_drive words (Drive w) first none asks = none _ asks
only_drive words line first none asks = apart (slice_get words 0) (codes "drive") (name_of line) refl first (named words line asks)

-- the same of `serve`
pub only_serve : (words : List (List ℕ)) (line : CommandLine) → slice_get words 0 ≡ Some (codes "serve") → ((room : ServeWords) → IsServe words room → ⊥) → AsksFor words line → ⊥
only_serve words (Serve w) first none asks = none _ asks
only_serve words line first none asks = apart (slice_get words 0) (codes "serve") (name_of line) refl first (named words line asks)

-- the same of `stress`
pub only_stress : (words : List (List ℕ)) (line : CommandLine) → slice_get words 0 ≡ Some (codes "stress") → ((asked : StressWords) → IsStress words asked → ⊥) → AsksFor words line → ⊥
only_stress words (Stress w) first none asks = none _ asks
only_stress words line first none asks = apart (slice_get words 0) (codes "stress") (name_of line) refl first (named words line asks)

-- the same of `thin`
pub only_thin : (words : List (List ℕ)) (line : CommandLine) → slice_get words 0 ≡ Some (codes "thin") → ((room : ThinWords) → IsThin words room → ⊥) → AsksFor words line → ⊥
only_thin words (Thin w) first none asks = none _ asks
only_thin words line first none asks = apart (slice_get words 0) (codes "thin") (name_of line) refl first (named words line asks)

-- a flag
said_one : (o : Option (List ℕ)) (a b : Bool) → o ≡ Some (said a) → o ≡ Some (said b) → a ≡ b
said_one o true true first second = refl
said_one o false false first second = refl
said_one o true false first second = absurd (apart o (codes "true") (codes "false") refl first second)
said_one o false true first second = absurd (apart o (codes "false") (codes "true") refl first second)

number_one : (o : Option (List ℕ)) (m n : ℕ) → m < 2 ^ 64 → n < 2 ^ 64 → o ≡ Some (decimal m) → o ≡ Some (decimal n) → m ≡ n
number_one o m n m_small n_small first second = decimal_injective m n m_small n_small (given_one o (decimal m) (decimal n) first second)

-- a number that may be missing
spelt_one : (a b : Option ℕ) → IfSome a (λ n. (1 ≤ n) × (n ≤ 4294967295)) → IfSome b (λ n. (1 ≤ n) × (n ≤ 4294967295)) → spelt a ≡ spelt b → a ≡ b
spelt_one (Some m) (Some n) m_range n_range same = ap Some (decimal_injective m n (omega arith) (omega arith) cc)
spelt_one None None a_range b_range same = refl
spelt_one a b a_range b_range same = cc

pub asks_one : HasOneMeaning
asks_one words (Generate v) (Generate w) p q =
    let players = given_one _ v.players w.players p.players q.players in
    let out_name = given_one _ v.out_name w.out_name p.out_name q.out_name in
    let seed = number_one _ v.seed w.seed p.seed_range q.seed_range p.seed q.seed in
    let tries = number_one _ v.tries w.tries (omega arith) (omega arith) p.tries q.tries in
    λ i. Generate (record { players = players i; out_name = out_name i; seed = seed i; tries = tries i })
asks_one words (Check v) (Check w) p q =
    let players = given_one _ v.players w.players p.players q.players in
    let multidata = given_one _ v.multidata w.multidata p.multidata q.multidata in
    λ i. Check (record { players = players i; multidata = multidata i })
asks_one words (Reach v) (Reach w) p q =
    let players = given_one _ v.players w.players p.players_given q.players_given in
    λ i. Reach (record { players = players i })
asks_one words (NewRoom v) (NewRoom w) p q =
    let multidata = given_one _ v.multidata w.multidata p.multidata q.multidata in
    let journal = given_one _ v.journal w.journal p.journal q.journal in
    let pair = said_one _ v.pair w.pair p.pair q.pair in
    λ i. NewRoom (record { multidata = multidata i; journal = journal i; pair = pair i })
asks_one words (Drive v) (Drive w) p q =
    let multidata = given_one _ v.multidata w.multidata p.multidata q.multidata in
    let journal = sym p.journal ∙ q.journal in
    let pair = said_one _ v.pair w.pair p.pair q.pair in
    λ i. Drive (record { multidata = multidata i; journal = journal i; pair = pair i })
asks_one words (Serve v) (Serve w) p q =
    let multidata = given_one _ v.multidata w.multidata p.multidata q.multidata in
    let journal = given_one _ v.journal w.journal p.journal q.journal in
    let pair = said_one _ v.pair w.pair p.pair q.pair in
    let bind = given_one _ v.bind w.bind p.bind q.bind in
    let workers = number_one _ v.workers w.workers (omega arith) (omega arith) p.workers q.workers in
    let accept = spelt_one v.accept w.accept p.accept_range q.accept_range (sym p.accept ∙ q.accept) in
    λ i. Serve (record { multidata = multidata i; journal = journal i; pair = pair i; bind = bind i; workers = workers i; accept = accept i })
asks_one words (Stress v) (Stress w) p q =
    let players = number_one _ v.players w.players (omega arith) (omega arith) p.players q.players in
    let seed = number_one _ v.seed w.seed p.seed_range q.seed_range p.seed q.seed in
    λ i. Stress (record { players = players i; seed = seed i })
asks_one words (Thin v) (Thin w) p q =
    let multidata = given_one _ v.multidata w.multidata p.multidata q.multidata in
    let choice = given_one _ v.choice w.choice p.choice q.choice in
    λ i. Thin (record { multidata = multidata i; choice = choice i })
asks_one words a b p q =
    absurd (apart (slice_get words 0) (name_of a) (name_of b) refl (named words a p) (named words b q))

-- what is asked for has its tries
pub has_tries : (words : List (List ℕ)) (line : CommandLine) → AsksFor words line → HasTries line
has_tries words (Generate w) asks = asks.tries_range
has_tries words (Check w) asks = tt
has_tries words (Reach w) asks = tt
has_tries words (NewRoom w) asks = tt
has_tries words (Drive w) asks = tt
has_tries words (Serve w) asks = tt
has_tries words (Stress w) asks = tt
has_tries words (Thin w) asks = tt

-- and its workers and connections
pub has_ranges : (words : List (List ℕ)) (line : CommandLine) → AsksFor words line → HasRanges line
has_ranges words (Generate w) asks = tt
has_ranges words (Check w) asks = tt
has_ranges words (Reach w) asks = tt
has_ranges words (NewRoom w) asks = tt
has_ranges words (Drive w) asks = tt
has_ranges words (Serve w) asks = (asks.workers_range, asks.accept_range)
has_ranges words (Stress w) asks = asks.players_range
has_ranges words (Thin w) asks = tt
