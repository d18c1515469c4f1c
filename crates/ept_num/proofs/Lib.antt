mod DecimalLemmas
mod WholeLemmas
