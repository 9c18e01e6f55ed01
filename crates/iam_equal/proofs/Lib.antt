mod ListLemmas
mod PieceLemmas
