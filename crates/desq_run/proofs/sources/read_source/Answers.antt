use Rattle.std.proofs.Common.{ap, map, string_bytes}
use Rattle.mine_model.specs.Numbered.{tree_of}
use Rattle.patex_parser.specs.Parsing.{use_view, IsParsed}
use Rattle.patex_parser.specs.declared.parsed.Parsed.{Parsed}
use Rattle.command_line.specs.Words.{read, make}
use Rattle.command_line.specs.Commands.{source_said}
use Rattle.desq_run.specs.Inputs.{IsRead}
use Rattle.desq_run.proofs.SourceLemmas.{parsed-read, made-read}
use Rattle.desq_run.proofs.RowLemmas.{if_ok}
use Rattle.desq_run.proofs.sources.read_source.Goals as goal

pub returns-in-Read-clause-read : goal.returns-in-Read-clause-read
returns-in-Read-clause-read c =
    let expression = string_bytes c.in-Read.expression in
    let file = string_bytes c.in-Read.file in
    let parsed = rw c.as_bytes.ensures.value at c.read_expression.ensures.parsed in
    rw c.in-Read.is
    (if_ok (λ (p : Parsed). IsParsed expression (tree_of p.tree) (map use_view p.uses.items))
    (λ (p : Parsed). IsRead (read expression file) (map use_view p.uses.items) (tree_of p.tree)) c.read_expression.result
    (λ p is. parsed-read expression file (map use_view p.uses.items) (tree_of p.tree) is) parsed)

pub returns-in-Read-clause-accepted : goal.returns-in-Read-clause-accepted
returns-in-Read-clause-accepted c = rw c.in-Read.is (rw c.as_bytes.ensures.value at c.read_expression.ensures.accepted)

pub returns-in-Read-clause-refused : goal.returns-in-Read-clause-refused
returns-in-Read-clause-refused c = rw c.in-Read.is (rw c.as_bytes.ensures.value at c.read_expression.ensures.refused)

pub returns-in-Make-clause-read : goal.returns-in-Make-clause-read
returns-in-Make-clause-read c =
    let expression = string_bytes c.in-Make.expression in
    let count = c.in-Make.count in
    let parsed = rw c.as_bytes-in-Make.ensures.value at c.read_expression-in-Make.ensures.parsed in
    rw c.in-Make.is
    (if_ok (λ (p : Parsed). IsParsed expression (tree_of p.tree) (map use_view p.uses.items))
    (λ (p : Parsed). IsRead (make count expression) (map use_view p.uses.items) (tree_of p.tree)) c.read_expression-in-Make.result
    (λ p is. made-read count expression (map use_view p.uses.items) (tree_of p.tree) is) parsed)

pub returns-in-Make-clause-accepted : goal.returns-in-Make-clause-accepted
returns-in-Make-clause-accepted c = rw c.in-Make.is (rw c.as_bytes-in-Make.ensures.value at c.read_expression-in-Make.ensures.accepted)

pub returns-in-Make-clause-refused : goal.returns-in-Make-clause-refused
returns-in-Make-clause-refused c = rw c.in-Make.is (rw c.as_bytes-in-Make.ensures.value at c.read_expression-in-Make.ensures.refused)

pub unreachable-requires : goal.unreachable-requires
unreachable-requires c = c.requires.mined (map string_bytes c.in-Merge.files.items) (ap source_said c.in-Merge.is)
