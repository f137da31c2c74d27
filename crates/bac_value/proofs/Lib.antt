mod ViableLemmas
