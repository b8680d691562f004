use Rattle.scf_request.proofs.Common.{refl, Answers, Ask, Asm, Check, Compare, Compile, Decide, Dis, Run}
use Rattle.scf_request.proofs.command_line.commands.Goals as goal

pub returns-clause-each : goal.returns-clause-each
returns-clause-each c = (
  (Check, refl, refl),
  (
    (Run, refl, refl),
    (
      (Decide, refl, refl),
      (
        (Dis, refl, refl),
        (
          (Asm, refl, refl),
          ((Compile, refl, refl), ((Compare, refl, refl), ((Ask, refl, refl), ((Answers, refl, refl), tt)))),
        ),
      ),
    ),
  ),
)
