use Rattle.scf_text.proofs.Common.{◌≡◌, sym, rules, get_or, ltb, slice_cmp, nat_cmp, name_at, begins_of}
use Rattle.std.proofs.lemmas.Fn.{always_returns_same}
use Rattle.std.proofs.lemmas.List.Sorted.{IsPartitionPoint-from_clause, IsPartitionedBy-ltb}
use Rattle.scf_text.proofs.LookupLemmas.{by_name, begun_before, drafts_follow, found_index, no_index}
use Rattle.scf_text.proofs.assembler.find_index.Goals as goal

pub returns-in_default : goal.returns-in_default
returns-in_default c =
    let symbols = c.args.symbols.now in
    let text = symbols.text.now in
    let labels = symbols.labels.now in
    let name = c.args.name.now in
    sym (no_index text labels (begins_of symbols.parsed_insns.now) name c.in_default.field-0
    (c.in_default.ensures.position (λ l. slice_cmp nat_cmp (name_at text l) name)
    (always_returns_same _ (λ a r. r ≡ slice_cmp nat_cmp (name_at text a.0.now) name) _ (λ a r f k. search rules))
    (by_name text labels name symbols.sorted)))

pub returns : goal.returns
returns c =
    let symbols = c.args.symbols.now in
    let text = symbols.text.now in
    let labels = symbols.labels.now in
    let parsed_insns = symbols.parsed_insns.now in
    let name = c.args.name.now in
    let label = get_or labels c.in-Ok.index 0 in
    let parted = IsPartitionedBy-ltb (λ d. d.start) parsed_insns label (drafts_follow parsed_insns symbols.following) in
    let point = IsPartitionPoint-from_clause (λ d. ltb d.start label) parsed_insns c.partition_point.result
    c.partition_point.ensures.partitioned parted (λ a r q k. search rules) in
    found_index text labels name (begins_of parsed_insns) c.in-Ok.index c.partition_point.result c.in-Ok.ensures.bound
    symbols.distinct
    (c.in-Ok.ensures.position (λ l. slice_cmp nat_cmp (name_at text l) name)
    (always_returns_same _ (λ a r. r ≡ slice_cmp nat_cmp (name_at text a.0.now) name) _ (λ a r f k. search rules)) 0)
    (begun_before parsed_insns label c.partition_point.result c.partition_point.ensures.bound point)
