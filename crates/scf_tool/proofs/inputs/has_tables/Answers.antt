use Rattle.std.proofs.lemmas.Bool.{eq-eqb, false≢true}
use Rattle.std.proofs.lemmas.List.{length-map}
use Rattle.scf_insn.specs.Architectures.{architectures}
use Rattle.scf_profile.proofs.Common.{All}
use Rattle.scf_request.specs.Bundle.{Held}
use Rattle.scf_request.specs.Contents.{held_by, rest_of, rest_of_table}
use Rattle.scf_request.specs.declared.bundle.BundleForm.{BundleForm}
use Rattle.scf_request.specs.declared.request.Scopes.{Scopes}
use Rattle.std.proofs.Common.{IsTrue, ◌↔◌}
use Rattle.scf_tool.proofs.Common.{◌≡◌, ◌≢◌, ◌∙◌, ◌∷◌, [], ℕ, Bool, List, PartReader, arith, length, map, refl, subst, sym}
use Rattle.scf_tool.specs.Commands.{ArePartsOfOne, HasTables, IsTableCount}
use Rattle.scf_tool.proofs.inputs.has_tables.Goals as goal

with_profiles : (form : BundleForm) (over : Scopes) (held : Held) (profiles : List PartReader) (result : Bool)
    → length profiles ≢ 0 → IsTableCount form over (length held.tables)
    → IsTrue result ↔ All (ArePartsOfOne held.tables held.stubs) architectures
    → IsTrue result ↔ HasTables (map rest_of profiles) form over held
with_profiles form over held [] result some count once = absurd (some refl)
with_profiles form over held (profile ∷ profiles) result some count once =
    (λ is. (count, once.0 is), λ has. once.1 has.1)

pub returns-then-is_table_count : goal.returns-then-is_table_count
returns-then-is_table_count c =
    let once = rw (c.deref.ensures.value, c.deref-then-is_table_count.ensures.value) at c.are_distinct.ensures in
    let size : c.len.result ≡ length (map rest_of_table c.args.contents.now.tables.items) = grind (arith, length-map) in
    let count = c.is_table_count.ensures.0 c.if-is_table_count.true in
    let profiles = c.args.contents.now.profiles in
    let counted = profiles.ok.0 in
    with_profiles c.args.form c.args.over (held_by c.args.contents.now) profiles.items c.are_distinct.result
    (λ none. false≢true (sym c.if-is_empty.false ∙ c.is_empty.ensures ∙ eq-eqb profiles.len 0 (omega (arith, counted, none))))
    (subst (λ (n : ℕ). IsTableCount c.args.form c.args.over n) size count) once
