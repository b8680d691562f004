use Rattle.scf_tool.proofs.Common.{◌≡◌, ◌⊎◌, ℕ, List, Option, map, inl, inr, refl, subst, Result, Ok, Err, err_from_is_err_and, IsAmong, Row, Text, fault_of, ErrorKind, OutOfMemory, Fault, Reply, CommandLine, AsksFor, SpeaksOfWords, scf, Explains}
use Rattle.scf_tool.proofs.commands.ending_of.Goals as goal

explained : (words : List Text) (kind : ErrorKind) (reply : Result Reply Fault)
    → (kind ≡ OutOfMemory) ⊎ IsAmong kind (fault_of scf words) → Explains kind reply → SpeaksOfWords words reply
explained words kind (Ok (CommandLine text status)) (inl wanting) e = absurd (e.0 wanting)
explained words kind (Ok (CommandLine text status)) (inr among) e = (kind, among, e.1)
explained words kind (Ok reply) h e = absurd e
explained words kind (Err fault) h e = rw e tt

pub returns-in_err-request_of-in-Ok : goal.returns-in_err-request_of-in-Ok
returns-in_err-request_of-in-Ok g c =
    let p = err_from_is_err_and c.from_residual.result
    c.from_residual.ensures.1 in
    let asks = subst (λ (comparison : Option (List ℕ × List Row)). AsksFor comparison (Err c.in_err-request_of-in-Ok.field-0.0))
    c.in-Ok.ensures.matches c.in_err-request_of-in-Ok.ensures in
    rw (p.1, p.2) (inl ((c.in-Ok.ensures.kinds, asks), refl))

pub returns-in-Err : goal.returns-in-Err
returns-in-Err g c = inl (
  explained (map g.T.AsStr.text c.args.words.now) _ c.explain.result c.in-Err.ensures.kinds
      c.explain.ensures,
  refl,
)
