mod EndingLemmas
mod FilterLemmas
mod RecordLemmas
