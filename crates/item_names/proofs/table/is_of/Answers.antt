use Rattle.std.proofs.Common.{◌≡◌, ◌≤◌, ◌<◌, ◌-◌, [], length, get_or, refl, sym, ◌∙◌, arith, subst}
use Rattle.std.proofs.lemmas.List.{length-map, get_or-map}
use Rattle.std.proofs.lemmas.List.Elements.{Contains-get_or}
use Rattle.mine_model.proofs.ListLemmas.{AllByRecursion-contained}
use Rattle.item_names.specs.declared.keys.Key.{Key}
use Rattle.item_names.specs.Table.{key_of, layout, AreBytes}
use Rattle.item_names.proofs.KeyLemmas.{same_name, AreBytes-from}
use Rattle.item_names.proofs.table.is_of.Goals as goal

pub returns-then-is_whole : goal.returns-then-is_whole
returns-then-is_whole c =
    let names = c.args.texts.now in
    let within : c.args.slot.held - 1 < length names = omega (arith, c.requires.slot.within, length-map names key_of, c.requires.taken) in
    let key : key_of (get_or names (c.args.slot.held - 1) []) ≡ key_of c.args.name.now =
    sym (get_or-map key_of names (c.args.slot.held - 1) [] (layout.key_in layout.free) within) ∙ sym (c.requires.slot.key c.requires.taken) ∙ c.if-has_key.ensures.0 refl ∙ c.requires.key in
    let bytes = AllByRecursion-contained AreBytes names (get_or names (c.args.slot.held - 1) []) c.requires.bytes (Contains-get_or names (c.args.slot.held - 1) [] within) in
    let size : (key_of (get_or names (c.args.slot.held - 1) [])).size ≤ 16 = subst (λ (k : Key). k.size ≤ 16) (c.requires.key ∙ sym key) (c.if-is_whole.ensures.0 refl) in
    (λ whole. same_name (get_or names (c.args.slot.held - 1) []) c.args.name.now bytes (AreBytes-from c.args.name.now c.type_inv.name) key size, λ same. c.if-is_whole.true)
