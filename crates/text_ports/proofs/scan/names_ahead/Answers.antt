use Rattle.std.proofs.Common.{refl}
use Rattle.std.proofs.lemmas.Simd.{zip2_of_maps, zip2_splat, length-chunk}
use lib.Lanes.{chunk}
use Rattle.text_ports.proofs.LaneLemmas.{within_lanes, names_of_lanes, stop_of_lanes}
use Rattle.text_ports.proofs.scan.names_ahead.Goals as goal

pub returns-clause-within : goal.returns-clause-within
returns-clause-within c =
    let v = chunk c.args.at 16 c.args.rest.now in
    let long = length-chunk c.args.at 16 c.args.rest.now c.requires in
    within_lanes c.args.rest.now c.args.at _ _ c.requires c.type_inv.rest c.first_set.ensures _
    (zip2_of_maps _ _ _ v (zip2_splat _ v 16 _ long) (zip2_splat _ v 16 _ long)) refl

pub returns-clause-names : goal.returns-clause-names
returns-clause-names c =
    let v = chunk c.args.at 16 c.args.rest.now in
    let long = length-chunk c.args.at 16 c.args.rest.now c.requires in
    names_of_lanes c.args.rest.now c.args.at _ _ c.requires c.type_inv.rest c.first_set.ensures _
    (zip2_of_maps _ _ _ v (zip2_splat _ v 16 _ long) (zip2_splat _ v 16 _ long)) refl

pub returns-clause-stop : goal.returns-clause-stop
returns-clause-stop c =
    let v = chunk c.args.at 16 c.args.rest.now in
    let long = length-chunk c.args.at 16 c.args.rest.now c.requires in
    stop_of_lanes c.args.rest.now c.args.at _ _ c.requires c.type_inv.rest c.first_set.ensures _
    (zip2_of_maps _ _ _ v (zip2_splat _ v 16 _ long) (zip2_splat _ v 16 _ long)) refl
