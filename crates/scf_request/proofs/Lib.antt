mod BundleLemmas
mod CommandLineLemmas
pub mod Common
mod ContentLemmas
mod HeaderLemmas
mod InterpretationLemmas
mod OptionLemmas
mod RecordLemmas
