use Rattle.scf_tool.proofs.Common.{◌≡◌, map, string_bytes, take, texts_at}
use Rattle.scf_tool.proofs.findings.owned_texts.Given as goal

abbrev pub invariant-loop-word : goal.invariant-loop-word
invariant-loop-word l = map string_bytes l.list.items ≡ texts_at (take l.word-index l.words)
