-- What the readers of files answer, in the words of a run.
use Rattle.std.proofs.Common.{◌≡◌, ◌≢◌, ◌↔◌, ◌∙◌, sym, subst, false, inl, inr, ℕ, ◌<◌, Bool, List, [], ◌∷◌, map, length, All, Option, Some, None, IfSome, Contains, IsPermutation, refl, arith}
use Rattle.std.proofs.lemmas.List.{append-nil}
use Rattle.std.proofs.lemmas.List.Elements.{All-contains}
use Rattle.mine_model.specs.declared.item.Item.{Item}
use Rattle.mine_model.specs.declared.fault.Fault.{Fault}
use Rattle.mine_model.specs.Support.{Sequence}
use Rattle.mine_model.specs.Names.{name_of, AreDistinct, HasName, sequence_by, GrowBy}
use Rattle.item_hierarchy.specs.declared.hierarchy_fault.CloseFault.{CloseFault}
use Rattle.item_hierarchy.specs.declared.hierarchy_fault.CloseFault.TheVariants as close
use Rattle.mine_model.specs.Limits.{most_file_bytes}
use Rattle.mine_model.specs.Hierarchy.{Link, IsAncestor}
use Rattle.mine_model.specs.Text.{lines_of}
use Rattle.mine_model.specs.Ancestry.{Ancestry}
use Rattle.item_hierarchy.specs.Faults.{fault_of_close}
use Rattle.mine_model.specs.Refusal.{IsHierarchyRefusal, IsSequencesRefusal, items_of, sequences_of, names_of, placed_links_of, links_of}
use Rattle.mine_model.proofs.ListLemmas.{Contains-none, Contains-first}
use Rattle.item_hierarchy.specs.declared.edges.EdgeRow.{EdgeRow}
use Rattle.item_hierarchy.specs.Edges.{AreWithin, named_rows, OrderedRows, IsCloseRefusal, Closes}
use Rattle.item_hierarchy.specs.Refusing.{IsReadRefusal}
use Rattle.desq_run.proofs.HierarchyLemmas.{hierarchy-of, close-refused}
use Rattle.made_input.specs.Made.{made_names, made_items, named_links, named_sequences}
use Rattle.made_input.proofs.NameLemmas.{how_many_names}
use Rattle.made_input.proofs.MakingLemmas.{names-known}
use Rattle.command_line.specs.Words.{Command, make, file_of}
use Rattle.desq_run.specs.Ends.{bytes_named}
use Rattle.desq_run.specs.Inputs.{AreRowsOf, IsDatabaseOf, IsHierarchySaid, IsDatabaseSaid, AreLinksWithin, AreInputs}
use Rattle.desq_run.proofs.LinkLemmas.{Contains-both, Contains-front, Contains-back}

pub database-of : (weighted : Bool) (told : Option (List ℕ)) (known names : List (List ℕ)) (db : List (Sequence Item))
    → IfSome told (λ bytes. map (sequence_by (name_of names)) db ≡ sequences_of weighted bytes)
    → IfSome told (λ bytes. GrowBy known (items_of (sequences_of weighted bytes)) names)
    → IfSome told (λ bytes. (fault : Fault) → IsSequencesRefusal weighted known bytes fault → ⊥)
    → IfSome told (λ bytes. IsDatabaseOf weighted bytes known names db)
database-of weighted None known names db said grown accepted = tt
database-of weighted (Some bytes) known names db said grown accepted = record {
  accepted = accepted;
  same = said;
  held = λ name. (
    (λ inside. Contains-both known (items_of (sequences_of weighted bytes)) name ((grown.exact name).0 inside)),
    (λ inside. (grown.exact name).1 (elim inside [
      | inl front ↦ Contains-front known (items_of (sequences_of weighted bytes)) name front
      | inr back ↦ Contains-back known (items_of (sequences_of weighted bytes)) name back
    ])),
  );
}

-- the rows that were read, in any order, are those of the file
pub told-rows : (told : Option (List ℕ)) (names : List (List ℕ)) (rows : List EdgeRow) (ordered : OrderedRows) → AreDistinct names → AreWithin (length names) rows
    → IfSome told (λ bytes. named_rows names rows ≡ placed_links_of (lines_of bytes))
    → IfSome told (λ bytes. GrowBy [] (names_of (lines_of bytes)) names)
    → IfSome told (λ bytes. (fault : Fault) → IsReadRefusal [] bytes fault → ⊥)
    → ordered.items ≡ length names → IsPermutation rows ordered.rows
    → IfSome told (λ bytes. AreRowsOf bytes names (Some ordered))
told-rows None names rows ordered distinct within said grown accepted size same = tt
told-rows (Some bytes) names rows ordered distinct within said grown accepted size same = record {
  closes = λ h closes. hierarchy-of bytes names rows distinct within said grown accepted h (subst (λ n. Closes n rows h) size (closes rows same));
  refuses = λ fault is other. close-refused bytes names rows distinct within said grown accepted fault other (subst (λ n. IsCloseRefusal n rows fault) size (is rows same));
}

-- rows that make no hierarchy are refused as the file is
pub told-refusal : (told : Option (List ℕ)) (names : List (List ℕ)) (rows : List EdgeRow) → AreDistinct names → AreWithin (length names) rows
    → IfSome told (λ bytes. named_rows names rows ≡ placed_links_of (lines_of bytes))
    → IfSome told (λ bytes. GrowBy [] (names_of (lines_of bytes)) names)
    → IfSome told (λ bytes. (fault : Fault) → IsReadRefusal [] bytes fault → ⊥)
    → (fault : CloseFault) → IsCloseRefusal (length names) rows fault → fault ≢ close.NoMemory
    → IfSome told (λ bytes. IsHierarchyRefusal bytes (fault_of_close fault))
told-refusal None names rows distinct within said grown accepted fault is other = tt
told-refusal (Some bytes) names rows distinct within said grown accepted fault is other =
    close-refused bytes names rows distinct within said grown accepted fault other is

no_pairs : (pairs : List (Link (List ℕ))) → All (λ (p : Link (List ℕ)). Contains (names_of (lines_of [])) p.child × IsAncestor (links_of []) p.parent p.child) pairs → length pairs ≡ 0
no_pairs [] all = refl
no_pairs (p ∷ ps) all =
    let both : Contains (names_of (lines_of [])) p.child × IsAncestor (links_of []) p.parent p.child =
    All-contains (λ (q : Link (List ℕ)). Contains (names_of (lines_of [])) q.child × IsAncestor (links_of []) q.parent q.child) (p ∷ ps) p all (Contains-first p ps) in
    absurd (Contains-none p.child both.0)

-- of no bytes nothing is refused
pub no-refusal : (fault : Fault) → IsHierarchyRefusal [] fault → ⊥
no-refusal fault (inl large) = let more : most_file_bytes < 0 = large.0 in omega (arith, more)
no-refusal fault (inr (a, inl among)) = among
no-refusal fault (inr (a, inr (b, inl (line, cycle, same)))) =
    let (t, next, steps, walk) = cycle.0 in Contains-none (record { child = t; parent = next }) walk.0
no-refusal fault (inr (a, inr (b, inr (d, (more, same))))) =
    let (pairs, apart, all, over) = more in let none : length pairs ≡ 0 = no_pairs pairs all in omega (arith, over, none)

-- where no file is named there are no rows
pub no-rows : AreRowsOf [] [] None
no-rows = record {
  closes = λ h closes. record {
    accepted = no-refusal;
    held = λ name. ((λ held. held), (λ held. held));
    items = closes.0;
    above = λ w t w_held t_held. absurd (omega (arith, w_held));
  };
  refuses = λ fault is other. absurd is;
}

in_any : {T : Type 0} (told : Option T) (P : Type 0) → P → IfSome told (λ value. P)
in_any None P p = tt
in_any (Some value) P p = p

-- what was made is what a source says that asks for it, whatever the files hold
pub made-inputs : (holds : List ℕ → Option (List ℕ)) (command : Command) (count : ℕ) (expression : List ℕ) (names : List (List ℕ)) (h : Ancestry) (db : List (Sequence Item))
    → command.source ≡ make count expression → names ≡ made_names → h.items ≡ made_items → AreLinksWithin h
    → ((w t : Item) → HasName made_names w → HasName made_names t
    → IsAncestor h.links w t ↔ IsAncestor named_links (name_of made_names w) (name_of made_names t))
    → map (sequence_by (name_of made_names)) db ≡ named_sequences count
    → AreInputs holds command names h db
made-inputs holds command count expression names h db source is_names items within above sequences =
    let hierarchy : IsHierarchySaid (make count expression) [] made_names h = record {
      accepted = λ fault none. none;
      held = λ name. ((λ held. held), (λ held. held));
      items = items ∙ sym how_many_names;
      above = above;
    } in
    let database : IsDatabaseSaid (make count expression) false [] made_names made_names db = record {
      accepted = λ fault none. none;
      same = sequences;
      held = λ name. ((λ held. inl held), (λ held. elim held [ inl known ↦ known | inr item ↦ names-known count name item ]));
    } in
    record {
      known = made_names;
      added = [];
      behind = is_names ∙ sym (append-nil made_names);
      before = h;
      within = within;
      links = refl;
      hierarchy = subst (λ s. IfSome (bytes_named holds command.hierarchy) (λ bytes. IsHierarchySaid s bytes made_names h)) (sym source)
          (in_any (bytes_named holds command.hierarchy) (IsHierarchySaid (make count expression) [] made_names h) hierarchy);
      sequences = subst (λ s. IfSome (bytes_named holds (file_of command.source)) (λ bytes. IsDatabaseSaid s command.weighted bytes made_names names db)) (sym source)
          (in_any (bytes_named holds (file_of command.source)) (IsDatabaseSaid (make count expression) command.weighted [] made_names names db)
          (subst (λ l. IsDatabaseSaid (make count expression) command.weighted [] made_names l db) (sym is_names) database));
    }
