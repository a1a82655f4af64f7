-- Two runs of `generate` on the same files come to one thing.
use Rattle.std.proofs.Common.{◌≡◌, ◌<◌, ◌++◌, ◌-◌, ℕ, List, [], ◌∷◌, length, Option, Some, None, Ok, inl, inr, sym, ap, ap₂, subst, ◌∙◌, arith}
use Rattle.std.proofs.lemmas.Bool.{cases_lt}
use Rattle.mw_edges.specs.Folders.{GivesFile}
use Rattle.mw_edges.specs.declared.folder.FileRead.TheVariants.{Whole}
use Rattle.mw_model.specs.Seed.{Spot}
use Rattle.mw_multi.specs.World.{World}
use Rattle.mw_multi.specs.Players.{Players}
use Rattle.mw_multi.specs.Files.{world_files}
use Rattle.mw_multi.specs.Joint.{Joint}
use Rattle.mw_multi.specs.JointOf.{joint_of}
use Rattle.mw_multi.specs.Placement.{Put, what_stands}
use Rattle.mw_multidata.specs.Written.{seed_text}
use Rattle.mw_fill.specs.Fill.{filled, stuck}
use Rattle.mw_fill.specs.Try.{lists_of, placement_of}
use Rattle.mw_fill.specs.Generated.{IsFirst}
use Rattle.mw_fill.proofs.Determined.{has_one_outcome}
use Rattle.mw_spheres.specs.Playthrough.{IsPlaythrough}
use Rattle.mw_spheres.proofs.OneList.{spheres_are_one}
use Rattle.mw_spheres.proofs.OnePlaythrough.{playthroughs_are_one}
use Rattle.mw_seeds.specs.SeedFile.{SeedFile}
use Rattle.mw_seeds.specs.Played.{played_lines}
use Rattle.mw_seeds.proofs.JointFacts.{one_world_each}
use Rattle.mw_seeds.proofs.OneFile.{one_file}
use Rattle.mw_tables.specs.WorldOf.{world_at}
use Rattle.mw_tables.specs.PlayersOf.{players_at}
use Rattle.mw_causes.proofs.OneMeaning.{one_value}
use Rattle.mw_causes.specs.Tables.{Files, world_limit, max_table_file, max_world_files, WorldsOf, JointIn}
use Rattle.mw_seeds.specs.Made.{generated_line, IsMade, Generates}
use Rattle.mw_offline.specs.Laws.{AreTold, GenerateIsOne}

-- ---- files

one_content : (file : Option (Option (List ℕ))) (limit : ℕ) (told : Option (List ℕ)) (a b : List ℕ) → file ≡ Some told → GivesFile file limit (Whole a) → GivesFile file limit (Whole b) → a ≡ b
one_content None limit told a b is p q = cc
one_content (Some None) limit told a b is p q = absurd p
one_content (Some (Some held)) limit told a b is p q = p.0 ∙ sym q.0

module _ (files : Files) (told : AreTold files) where
  one_worlds : (left : ℕ) (names : List (List ℕ)) (a b : List World) → WorldsOf files left names a → WorldsOf files left names b → a ≡ b
  one_worlds left [] a b p q = p ∙ sym q
  one_worlds left (name ∷ names) a b (bytes, w, ws, is, file, world, rest) (others, v, vs, so, read, so_world, later) =
      let same : bytes ≡ others = one_content (files name) (world_limit left) (told name).0 bytes others (told name).1 file read in
      is ∙ ap₂ ◌∷◌ (one_value world_at bytes others w v same world so_world)
      (one_worlds (left - length bytes) names ws vs rest (subst (λ bs. WorldsOf files (left - length bs) names vs) (sym same) later)) ∙ sym so

  one_joint : (name : List ℕ) (a b : Joint) → JointIn files name a → JointIn files name b → a ≡ b
  one_joint name a b p q =
      let same : p.tables.bytes ≡ q.tables.bytes = one_content (files name) max_table_file (told name).0 p.tables.bytes q.tables.bytes (told name).1 p.tables.is_file q.tables.is_file in
      let players : p.players ≡ q.players = one_value players_at p.tables.bytes q.tables.bytes p.players q.players same p.tables.are_players q.tables.are_players in
      let worlds : p.worlds ≡ q.worlds =
      one_worlds max_world_files (world_files p.players) p.worlds q.worlds p.tables.are_worlds (subst (λ (ps : Players). WorldsOf files max_world_files (world_files ps) q.worlds) (sym players) q.tables.are_worlds) in
      let is : Ok a ≡ Ok b = sym p.joined ∙ ap₂ joint_of worlds players ∙ q.joined in
      cc

-- ---- the first try

module _ (joint : Joint) (seed tries : ℕ) where
  none_before : (s t : ℕ) (a b : List Put) → IsFirst joint seed tries s a → IsFirst joint seed tries t b → s < t → ⊥
  none_before s t a b p q less =
      let at = q.earlier s less in
      let same : filled p.filled.0 ≡ stuck at.0 at.1 = has_one_outcome joint (lists_of joint seed s) (filled p.filled.0) (stuck at.0 at.1) p.filled.1 at.2 in
      cc

  one_stream : (s t : ℕ) (a b : List Put) → IsFirst joint seed tries s a → IsFirst joint seed tries t b → s ≡ t
  one_stream s t a b p q =
      elim (cases_lt s t) [
        | inl less ↦ absurd (none_before s t a b p q less)
        | inr more ↦ elim (cases_lt t s) [
          | inl less ↦ absurd (none_before t s b a q p less)
          | inr no_more ↦ omega arith
        ]
      ]

  one_placement : (s : ℕ) (a b : List Put) → IsFirst joint seed tries s a → IsFirst joint seed tries s b → a ≡ b
  one_placement s a b p q =
      let outcome : filled p.filled.0 ≡ filled q.filled.0 = has_one_outcome joint (lists_of joint seed s) (filled p.filled.0) (filled q.filled.0) p.filled.1 q.filled.1 in
      let puts : p.filled.0 ≡ q.filled.0 = cc in
      p.filled.2 ∙ ap (placement_of joint) puts ∙ sym q.filled.2

-- ---- the whole

-- the same of one placement
one_of : (worlds : List World) (players : Players) (joint : Joint) → joint_of worlds players ≡ Ok joint → (seed stream : ℕ) (puts : List Put) (bytes text others other : List ℕ)
    → IsMade joint seed stream puts bytes text → IsMade joint seed stream puts others other → (bytes ≡ others) × (text ≡ other)
one_of worlds players joint is seed stream puts bytes text others other p q =
    let spheres : p.spheres ≡ q.spheres = spheres_are_one joint puts p.spheres q.spheres p.are_spheres q.are_spheres in
    let played : p.played ≡ q.played =
    playthroughs_are_one joint puts p.spheres p.played q.played p.is_playthrough (subst (λ ss. IsPlaythrough joint puts ss q.played) (sym spheres) q.is_playthrough) in
    let file : p.file ≡ q.file =
    one_file joint seed puts p.spheres p.file q.file (one_world_each worlds players joint is p.kept) p.is_file (subst (λ ss. SeedFile joint seed puts ss q.file) (sym spheres) q.is_file) in (
      p.written ∙ ap seed_text file ∙ sym q.written,
      p.printed
          ∙ ap₂ (λ (ss ps : List (List Spot)). generated_line seed stream (length ss) ++ played_lines joint (what_stands puts) 1 ps) spheres played
          ∙ sym q.printed,
    )

one_made : (worlds : List World) (players : Players) (joint : Joint) → joint_of worlds players ≡ Ok joint → (seed tries : ℕ) (bytes text others other : List ℕ) → Generates joint seed tries bytes text → Generates joint seed tries others other
    → (bytes ≡ others) × (text ≡ other)
one_made worlds players joint is seed tries bytes text others other p q =
    let streams : p.stream ≡ q.stream = one_stream joint seed tries p.stream q.stream p.placement q.placement p.first q.first in
    let first : IsFirst joint seed tries p.stream q.placement = subst (λ s. IsFirst joint seed tries s q.placement) (sym streams) q.first in
    let puts : p.placement ≡ q.placement = one_placement joint seed tries p.stream p.placement q.placement p.first first in
    let made : IsMade joint seed p.stream p.placement others other =
    subst (λ s. IsMade joint seed s p.placement others other) (sym streams) (subst (λ ps. IsMade joint seed q.stream ps others other) (sym puts) q.made) in
    one_of worlds players joint is seed p.stream p.placement bytes text others other p.made made

pub generate_is_one : GenerateIsOne
generate_is_one files wanted bytes text others other told p q =
    let joints : p.joint ≡ q.joint = one_joint files told wanted.players p.joint q.joint p.is_joined q.is_joined in
    one_made p.is_joined.worlds p.is_joined.players p.joint p.is_joined.joined wanted.seed wanted.tries bytes text others other p.made
    (subst (λ (j : Joint). Generates j wanted.seed wanted.tries others other) (sym joints) q.made)
