use Rattle.std.proofs.Common.{◌≡◌, List, map, sym, ap, subst}
use Rattle.std.specs.List.{All, slice_range}
use Rattle.place_walk.specs.declared.stand.Stand.{Stand}
use Rattle.stand_sums.specs.Files.{Filed, FilesValue, IsFull}
use Rattle.stand_sums.specs.Runs.{RunValue}
use Rattle.stand_sums.specs.Kept.{filed_in}
use Rattle.stand_sums.proofs.FileLemmas.{full-stands}
use Rattle.stand_sums.proofs.files.Files.finish.Goals as goal

pub returns-clause-stands : goal.returns-clause-stands
returns-clause-stands c =
    let run : List Stand = c.self.inside.run.stands in
    let view : map (filed_in run) c.self.inside.shelves.items ≡ c.args.self.now.filed = ap (λ (v : FilesValue). v.filed) c.self.view_is in
    let full : All IsFull (map (filed_in run) c.self.inside.shelves.items) = subst (All IsFull) (sym view) c.requires.full in
    let all : All (λ filed. slice_range run filed.first filed.last ≡ filed.stands) c.args.self.now.filed =
    subst (All (λ (filed : Filed). slice_range run filed.first filed.last ≡ filed.stands)) view (full-stands run c.self.inside.shelves.items c.self.invariant.shelved full) in
    let same : c.replace.result.stands ≡ run = ap (λ (v : RunValue). v.stands) c.replace.ensures.value in
    subst (λ (l : List Stand). All (λ (filed : Filed). slice_range l filed.first filed.last ≡ filed.stands) c.args.self.now.filed) (sym same) all
