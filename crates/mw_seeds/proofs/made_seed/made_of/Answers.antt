use Rattle.std.proofs.Common.{◌++◌, ap, subst, ◌∙◌}
use Rattle.mw_multi.specs.Joint.{IsJoint}
use Rattle.mw_multi.specs.Placement.{what_stands}
use Rattle.mw_spheres.proofs.Showing.{spheres_show}
use Rattle.mw_seeds.specs.Played.{played_lines}
use Rattle.mw_seeds.specs.Made.{generated_line}
use Rattle.mw_seeds.proofs.MadeFirst.{beatable_table}
use Rattle.mw_seeds.proofs.made_seed.made_of.Goals as goal

pub returns : goal.returns
returns c =
    let joint = c.args.joint.now in
    let puts = c.args.found.now.placement in
    let kept = subst IsJoint c.joint.view_is c.joint.invariant in
    let beatable = beatable_table joint puts kept c.requires.placement c.requires.beatable in
    record {
      kept = kept;
      beatable = beatable;
      spheres = c.in_ok-spheres.spheres;
      are_spheres = c.in_ok-spheres.ensures;
      shows = spheres_show joint puts c.in_ok-spheres.spheres kept c.requires.placement beatable c.in_ok-spheres.ensures;
      played = c.in_ok-played.played;
      is_playthrough = c.in_ok-played.ensures.played;
      needed = c.in_ok-played.ensures.spare;
      file = c.in_ok-file.file;
      is_file = c.in_ok-file.ensures;
      written = c.in_ok-bytes.ensures.text;
      printed = c.in_ok-text.ensures ∙ ap (λ n. generated_line c.args.seed c.args.found.now.stream n ++ played_lines joint (what_stands puts) 1 c.in_ok-played.played) c.len.ensures;
    }
