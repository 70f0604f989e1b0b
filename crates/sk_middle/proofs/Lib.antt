mod Chains
mod Gating
