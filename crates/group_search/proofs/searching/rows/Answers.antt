use Rattle.std.proofs.Common.{◌<◌, ◌^◌, List, length, map, sym, subst}
use Rattle.std.specs.List.{AllZip}
use Rattle.std.proofs.lemmas.Result.{IfOk-weaker}
use Rattle.mine_model.specs.Limits.{most_length}
use Rattle.automaton_model.specs.Automata.{StateValue}
use Rattle.automaton_model.specs.Groups.{AreGroupRows}
use Rattle.group_search.specs.declared.loads.LoadedState.{LoadedState}
use Rattle.group_search.specs.Found.{load_of, AreLoadedRows}
use Rattle.group_search.specs.Searched.{IsTrim}
use Rattle.group_search.specs.Decoded.{states_in, IsRoot}
use Rattle.group_search.proofs.LawLemmas.{rows-of-stands}
use Rattle.group_search.proofs.DecodeLemmas.{roots-there, roots-finite, roots-weigh, roots-stand}
use Rattle.group_search.proofs.searching.rows.Goals as goal

pub decode_all-requires-clause-codes : goal.decode_all-requires-clause-codes
decode_all-requires-clause-codes c = λ group held. (length c.args.ranks.now.order, most_length, c.requires.searched group held)

pub rows_of-requires-clause-trim : goal.rows_of-requires-clause-trim
rows_of-requires-clause-trim c = subst IsTrim (sym c.new-decoded.ensures) c.in_ok-decode_all.ensures.trim

pub rows_of-requires-clause-there : goal.rows_of-requires-clause-there
rows_of-requires-clause-there c =
    let zip = subst (λ (s : List StateValue). AllZip (IsRoot s) c.as_slice.result.now c.args.groups.now) (sym c.new-decoded.ensures)
    (subst (λ (l : List LoadedState). AllZip (IsRoot (states_in c.decode_all.new.heads.items c.decode_all.new.edges.items)) l c.args.groups.now) (sym c.as_slice.ensures.value) c.in_ok-decode_all.ensures.roots) in
    roots-there c.new-decoded.result c.as_slice.result.now c.args.groups.now zip

pub rows_of-requires-clause-finite : goal.rows_of-requires-clause-finite
rows_of-requires-clause-finite c =
    let zip = subst (λ (s : List StateValue). AllZip (IsRoot s) c.as_slice.result.now c.args.groups.now) (sym c.new-decoded.ensures)
    (subst (λ (l : List LoadedState). AllZip (IsRoot (states_in c.decode_all.new.heads.items c.decode_all.new.edges.items)) l c.args.groups.now) (sym c.as_slice.ensures.value) c.in_ok-decode_all.ensures.roots) in
    roots-finite c.new-decoded.result (length c.args.ranks.now.order) most_length c.as_slice.result.now c.args.groups.now zip c.requires.searched

pub rows_of-requires-clause-fits : goal.rows_of-requires-clause-fits
rows_of-requires-clause-fits c =
    let zip = subst (λ (s : List StateValue). AllZip (IsRoot s) c.as_slice.result.now c.args.groups.now) (sym c.new-decoded.ensures)
    (subst (λ (l : List LoadedState). AllZip (IsRoot (states_in c.decode_all.new.heads.items c.decode_all.new.edges.items)) l c.args.groups.now) (sym c.as_slice.ensures.value) c.in_ok-decode_all.ensures.roots) in
    subst (λ n. n < 2 ^ 64) (sym (roots-weigh c.new-decoded.result c.as_slice.result.now c.args.groups.now zip)) c.requires.fits

pub returns : goal.returns
returns c =
    let zip = subst (λ (s : List StateValue). AllZip (IsRoot s) c.as_slice.result.now c.args.groups.now) (sym c.new-decoded.ensures)
    (subst (λ (l : List LoadedState). AllZip (IsRoot (states_in c.decode_all.new.heads.items c.decode_all.new.edges.items)) l c.args.groups.now) (sym c.as_slice.ensures.value) c.in_ok-decode_all.ensures.roots) in
    IfOk-weaker c.rows_of.result (λ rows. AreLoadedRows c.args.ranks.now.order c.args.threshold c.new-decoded.result (map load_of c.as_slice.result.now) rows.items)
    (λ rows. AreGroupRows c.args.ranks.now.order c.args.threshold c.args.groups.now rows.items)
    (λ rows are. rows-of-stands c.args.ranks.now.order c.args.threshold c.new-decoded.result (map load_of c.as_slice.result.now) c.args.groups.now
    (roots-stand c.new-decoded.result c.as_slice.result.now c.args.groups.now zip) rows.items are) c.rows_of.ensures
