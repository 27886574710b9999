use Rattle.place_records.proofs.making.make.Goals as goal

pub returns : goal.returns
returns g c = c.make_by.ensures
