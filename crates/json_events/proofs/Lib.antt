mod TokenLemmas
