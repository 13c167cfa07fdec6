mod CompiledLemmas
mod GroupLemmas
mod ReplaceLemmas
mod TextLemmas
